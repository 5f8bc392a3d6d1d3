use Rattle.std.proofs.Common.{◌≡◌, ℕ, ◌-◌, ◌≤◌, List, [], ◌∷◌, ◌++◌, length, get_or, take, drop, map, ap, sym, arith, string_bytes, take_all}
use Rattle.std.proofs.lemmas.Grind.{common_steps}
use Rattle.std.specs.List.{flat_map, join_with_byte}
use Rattle.fb_index.proofs.spelling.joined.Goals as goal

-- the first text, and then each other one behind the byte
join_with_byte-cons : {T : Type 0} (byte : ℕ) (text : T → List ℕ) (first : T) (rest : List T) →
    join_with_byte byte (map text (first ∷ rest)) ≡ text first ++ flat_map (λ item. byte ∷ text item) rest
join_with_byte-cons byte text first [] = grind (arith, common_steps)
join_with_byte-cons byte text first (next ∷ rest) = ap (λ tail. text first ++ byte ∷ tail) (join_with_byte-cons byte text next rest)

start : {T : Type 0} (byte : ℕ) (text : T → List ℕ) (first : T) (all : List T) (so_far : List ℕ) → 1 ≤ length all →
    first ≡ get_or all 0 first → so_far ≡ text first →
    so_far ++ flat_map (λ item. byte ∷ text item) (drop 0 (take (length all - 1) (drop 1 all))) ≡ join_with_byte byte (map text all)
start byte text first [] so_far some is_first is_text = absurd (omega arith)
start byte text first (x ∷ all) so_far some is_first is_text =
    let whole : take (length (x ∷ all) - 1) all ≡ all = take_all _ _ (omega arith) in
    rw (whole, is_text, is_first) (sym (join_with_byte-cons byte text x all))

pub loop-item-init : goal.loop-item-init
loop-item-init g c =
    start c.args.sign g.T.Spelled.spelling c.first-item.result c.args.items.now (string_bytes c.in_ok-text.text) c.in-len1-up.len_at_least
    c.first-item.is c.in_ok-text.ensures
