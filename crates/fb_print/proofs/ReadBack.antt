-- The canonical text of a tree that some text has is a text of that tree.
use Rattle.std.proofs.Common.{ℕ, List, [], append-nil, length, refl, sym, ◌∙◌, subst}
use Rattle.fb_syntax.specs.declared.token.Token.{Token}
use Rattle.fb_syntax.specs.Trees.{ServicesTree, TestTree}
use Rattle.fb_syntax.specs.Input.{Input, whole_input}
use Rattle.fb_syntax.specs.Tokens.{placed}
use Rattle.fb_syntax.specs.Spans.{Spelling}
use Rattle.fb_syntax.specs.FileGrammar.{HasTree, HasServices, HasTest, SpellsServices, SpellsTest}
use Rattle.fb_print.specs.Items.{Item, items_text}
use Rattle.fb_print.specs.Services.{services_items, test_items, services_text, test_text}
use Rattle.fb_print.specs.Spelled.{tokens_of}
use Rattle.fb_print.proofs.Respelling.{Each, Known}
use Rattle.fb_print.proofs.Apart.{Layout, Runs}
use Rattle.fb_print.proofs.ApartStatements.{services_run, test_runs}
use Rattle.fb_print.proofs.LexedAgain.{all_pieces, pieces_text, pieces_proper, pieces_lead, placed_known}
use Rattle.fb_print.proofs.PrintedUtf8.{text_utf8}
use Rattle.fb_print.proofs.StatementRespelled.{Respelled}
use Rattle.fb_print.proofs.FileRespelled.{services_again, test_again}

read_back : {Tree : Type 0} (Spells : Spelling Tree) (tree : Tree) (items : List Item) (bytes : List ℕ) → Runs Layout items Layout
    → ((from to : Input) → Spells from to tree → Respelled Spells (tokens_of items) tree from to)
    → HasTree Spells bytes tree → HasTree Spells (items_text items) tree
read_back Spells tree items bytes runs again (tokens, (pieces, utf8, cut, proper, are), (rest, spelled, none)) =
    let respelled = again (whole_input tokens (length bytes)) rest spelled in
    let old = subst (λ (ts : List Token). Each Known ts) (sym are) (placed_known 0 pieces [] proper) in
    let known = (respelled.covers.known old).0 in
    let printed = placed 0 (all_pieces items) in
    let left : Input = record { left = []; end = length (items_text items); calls = rest.calls } in (
      printed,
      (all_pieces items, text_utf8 items known, sym (pieces_text items [] ∙ append-nil (items_text items)), pieces_proper Layout Layout items known runs, refl),
      (
        left,
        respelled.spelled (whole_input printed (length (items_text items))) left (record { leads = pieces_lead 0 items; same_end = refl; before = refl; after = refl }),
        refl,
      ),
    )

pub services_back : (bytes : List ℕ) (tree : ServicesTree) → HasServices bytes tree → HasServices (services_text tree) tree
services_back bytes tree has = read_back SpellsServices tree (services_items tree) bytes (services_run tree) (services_again tree) has

pub test_back : (bytes : List ℕ) (tree : TestTree) → HasTest bytes tree → HasTest (test_text tree) tree
test_back bytes tree has = read_back SpellsTest tree (test_items tree) bytes (test_runs tree) (test_again tree) has
