use Rattle.std.proofs.Common.{◌≡◌, ◌<◌, ◌≤◌, ◌∙◌, ap, refl, sym, subst, arith, drop, length, length-append, ◌++◌, ◌∷◌, [], Some, None}
use Rattle.std.proofs.lemmas.List.{append-nil}
use Rattle.fb_index.specs.Pieces.{IsFree}
use Rattle.fb_report.specs.Lines.{GivesPiece, line_feed}
use Rattle.fb_verify.specs.declared.reading.Reading.{Reading}
use Rattle.fb_verify.specs.Taking.{ended, IsTaken}
use Rattle.fb_verify.proofs.Walks.{starts, goes_on, ticks_on, breaks_here, ticks_so_far, keeps_rest, left_behind, starts_within}
use Rattle.fb_verify.proofs.reading.Reading.take.Goals as goal

pub loop-next-init : goal.loop-next-init
loop-next-init g c = starts c.args.self.now c.args.piece.now c.split_lines-pieces.result.left c.split_lines-pieces.result.offset c.args.evals.now (ap (λ r. r.left) c.split_lines-pieces.ensures) (ap (λ r. r.offset) c.split_lines-pieces.ensures)

pub returns-in_err-found-in-Whole-clause-ticks : goal.returns-in_err-found-in-Whole-clause-ticks
returns-in_err-found-in-Whole-clause-ticks g c =
    let gives = subst (λ next. GivesPiece c.loop-next.pieces (Some next) c.next.new.self) c.in-Whole.is c.in-Some.ensures in
    ticks_on c.args.self.now c.loop-next.self c.args.piece.now c.loop-next.pieces.left c.loop-next.pieces.offset c.args.evals.now c.loop-next.evals c.loop-next.invariant
    c.in-Whole.text.now c.next.new.self.left gives.1 gives.0 c.take_line.new.evals c.take_line.ensures.ticks

pub returns-in-Some-2-clause-found : goal.returns-in-Some-2-clause-found
returns-in-Some-2-clause-found g c =
    let gives = subst (λ next. GivesPiece c.loop-next.pieces (Some next) c.next.new.self) c.in-Whole.is c.in-Some.ensures in
    breaks_here c.args.self.now c.loop-next.self c.args.piece.now c.loop-next.pieces.left c.loop-next.pieces.offset c.args.evals.now c.loop-next.evals c.loop-next.invariant
    c.in-Whole.text.now c.next.new.self.left gives.1 gives.0 c.in-Some-2.found
    (λ services test choices bytes lines has free.
    subst (λ found. IsTaken services test choices (bytes ++ ended c.in-Whole.text.now) lines found c.take_line.new.self c.loop-next.evals c.take_line.new.evals)
    c.in-Some-2.is (c.in_ok-found-in-Whole.ensures.taken services test choices bytes lines has free))

pub returns-in-Some-2-clause-ticks : goal.returns-in-Some-2-clause-ticks
returns-in-Some-2-clause-ticks g c =
    let gives = subst (λ next. GivesPiece c.loop-next.pieces (Some next) c.next.new.self) c.in-Whole.is c.in-Some.ensures in
    ticks_on c.args.self.now c.loop-next.self c.args.piece.now c.loop-next.pieces.left c.loop-next.pieces.offset c.args.evals.now c.loop-next.evals c.loop-next.invariant
    c.in-Whole.text.now c.next.new.self.left gives.1 gives.0 c.take_line.new.evals c.take_line.ensures.ticks

pub loop-next-smaller : goal.loop-next-smaller
loop-next-smaller g c =
    let gives = subst (λ next. GivesPiece c.loop-next.pieces (Some next) c.next.new.self) c.in-Whole.is c.in-Some.ensures in
    let longer = ap length gives.1 ∙ length-append c.in-Whole.text.now (line_feed ∷ c.next.new.self.left) in
    omega (arith, longer)

pub loop-next-preserved : goal.loop-next-preserved
loop-next-preserved g c =
    let gives = subst (λ next. GivesPiece c.loop-next.pieces (Some next) c.next.new.self) c.in-Whole.is c.in-Some.ensures in
    goes_on c.args.self.now c.loop-next.self c.args.piece.now c.loop-next.pieces.left c.loop-next.pieces.offset c.args.evals.now c.loop-next.evals c.loop-next.invariant
    c.in-Whole.text.now c.next.new.self.left gives.1 gives.0 c.take_line.new.self c.next.new.self.offset c.take_line.new.evals gives.2
    (λ services test choices bytes lines has free.
    subst (λ found. IsTaken services test choices (bytes ++ ended c.in-Whole.text.now) lines found c.take_line.new.self c.loop-next.evals c.take_line.new.evals)
    c.in_default-2.is (c.in_ok-found-in-Whole.ensures.taken services test choices bytes lines has free))

pub behind-requires : goal.behind-requires
behind-requires g c =
    let gives = subst (λ next. GivesPiece c.loop-next.pieces (Some next) c.next.new.self) c.in-Cut.is c.in-Some.ensures in
    subst (λ at. at ≤ length c.args.piece.now) (sym gives.2) (starts_within c.args.self.now c.loop-next.self c.args.piece.now c.loop-next.pieces.left c.loop-next.pieces.offset c.args.evals.now c.loop-next.evals c.loop-next.invariant)

pub returns-in_err-extend_from_slice-in-Cut-clause-ticks :
    goal.returns-in_err-extend_from_slice-in-Cut-clause-ticks
returns-in_err-extend_from_slice-in-Cut-clause-ticks g c =
    ticks_so_far c.args.self.now c.loop-next.self c.args.piece.now c.loop-next.pieces.left c.loop-next.pieces.offset c.args.evals.now c.loop-next.evals c.loop-next.invariant

pub returns-in-Cut-clause-found : goal.returns-in-Cut-clause-found
returns-in-Cut-clause-found g c =
    let gives = subst (λ next. GivesPiece c.loop-next.pieces (Some next) c.next.new.self) c.in-Cut.is c.in-Some.ensures in
    let later : Reading =
    record { alloc = c.loop-next.self.alloc; audit = c.loop-next.self.audit; count = c.loop-next.self.count; tail = c.extend_from_slice.new.self } in
    let rest = c.behind.ensures ∙ ap (λ at. drop at c.args.piece.now) gives.2 ∙ left_behind c.args.self.now c.loop-next.self c.args.piece.now c.loop-next.pieces.left c.loop-next.pieces.offset c.args.evals.now c.loop-next.evals c.loop-next.invariant in
    keeps_rest c.args.self.now c.loop-next.self c.args.piece.now c.loop-next.pieces.left c.loop-next.pieces.offset c.args.evals.now c.loop-next.evals c.loop-next.invariant later gives.0 refl refl
    (c.in_ok-extend_from_slice-in-Cut.ensures.items ∙ ap (λ left. c.loop-next.self.tail.items ++ left) rest)

pub returns-in-Cut-clause-ticks : goal.returns-in-Cut-clause-ticks
returns-in-Cut-clause-ticks g c =
    ticks_so_far c.args.self.now c.loop-next.self c.args.piece.now c.loop-next.pieces.left c.loop-next.pieces.offset c.args.evals.now c.loop-next.evals c.loop-next.invariant

pub returns-clause-found : goal.returns-clause-found
returns-clause-found g c =
    let none = c.in_default.ensures.0 in
    keeps_rest c.args.self.now c.loop-next.self c.args.piece.now c.loop-next.pieces.left c.loop-next.pieces.offset c.args.evals.now c.loop-next.evals c.loop-next.invariant c.loop-next.self (subst (IsFree line_feed) (sym none) tt) refl refl
    (sym (append-nil c.loop-next.self.tail.items) ∙ ap (λ left. c.loop-next.self.tail.items ++ left) (sym none))

pub returns-clause-ticks : goal.returns-clause-ticks
returns-clause-ticks g c =
    ticks_so_far c.args.self.now c.loop-next.self c.args.piece.now c.loop-next.pieces.left c.loop-next.pieces.offset c.args.evals.now c.loop-next.evals c.loop-next.invariant
