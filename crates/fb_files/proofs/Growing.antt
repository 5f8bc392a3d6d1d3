-- Several appends are one, and appends to an empty file make its content.
use Rattle.std.proofs.Common.{◌≡◌, ℕ, List, [], ◌++◌, take, drop, Option, Some, None, IfSome, Result, Ok, Err, IsErrOf, String, string_bytes, arith, refl, sym, ◌∙◌, ap, append_assoc, append-nil, take-append-drop}
use Rattle.std.specs.Global.{Global}
use Rattle.std.specs.Option.{option_map}
use Rattle.fb_files.specs.Files.{Held, Becomes, Grows, Appends}
use Rattle.fb_base.specs.Count.{Rose}
use Rattle.fb_files.specs.Faults.{write_failed}
use Rattle.fb_files.specs.MemoryFiles.{added_by}
use Rattle.fb_files.specs.PlannedFaults.{after_call}
use Rattle.fb_files.specs.declared.planned_faults.PlannedFaults.{PlannedFaults}
use Rattle.fb_files.specs.declared.error.WriteError.{WriteError}
use Rattle.fb_files.specs.declared.error.WriteError.TheVariants.{Failed, Memory}

with_nothing : (held : Option (List ℕ)) → held ≡ option_map (λ content. content ++ []) held
with_nothing None = refl
with_nothing (Some content) = ap Some (sym (append-nil content))

with_more : (first second : List ℕ) (held : Option (List ℕ))
    → option_map (λ content. content ++ second) (option_map (λ content. content ++ first) held) ≡ option_map (λ content. content ++ (first ++ second)) held
with_more first second None = refl
with_more first second (Some content) = ap Some (append_assoc content first second)

pub Grows-none : (name : List ℕ) (held : Held) → Grows name [] held held
Grows-none name held = record { here = with_nothing (held name); elsewhere = λ other differs. refl }

pub Grows-more : (name first second : List ℕ) (before middle after : Held)
    → Grows name first before middle → Grows name second middle after → Grows name (first ++ second) before after
Grows-more name first second before middle after one two =
    record {
      here = two.here ∙ ap (λ held. option_map (λ content. content ++ second) held) one.here ∙ with_more first second (before name);
      elsewhere = λ other differs. two.elsewhere other differs ∙ one.elsewhere other differs;
    }

pub Grows-from_nothing : (name whole : List ℕ) (before middle after : Held)
    → Becomes name [] before middle → Grows name whole middle after → Becomes name whole before after
Grows-from_nothing name whole before middle after emptied grown =
    record {
      here = grown.here ∙ ap (λ held. option_map (λ content. content ++ whole) held) emptied.here;
      elsewhere = λ other differs. grown.elsewhere other differs ∙ emptied.elsewhere other differs;
    }

appends : (bytes name : List ℕ) (part : ℕ) (result : Result (Unit {0}) WriteError) (before after : Held)
    → Grows name (added_by result part bytes) before after → Appends bytes name result before after
appends bytes name part (Ok done) before after grown = grown
appends bytes name part (Err Failed) before after grown = (take part bytes, (drop part bytes, sym (take-append-drop part bytes)), grown)
appends bytes name part (Err Memory) before after grown = ([], (bytes, refl), grown)

-- what is added to the created file is what an append may add
pub appends_to_created : (created : Option (String Global)) (bytes : List ℕ) (part : ℕ) (result : Result (Unit {0}) WriteError) (before after : Held)
    → IfSome created (λ name. Grows (string_bytes name) (added_by result part bytes) before after)
    → IfSome (option_map string_bytes created) (λ name. Appends bytes name result before after)
appends_to_created None bytes part result before after grown = grown
appends_to_created (Some name) bytes part result before after grown = appends bytes (string_bytes name) part result before after grown

pub failure_is_counted : (result : Result (Unit {0}) WriteError) (before after : PlannedFaults)
    → after ≡ after_call (write_failed result) before → IsErrOf result Failed → Rose before.faults after.faults
failure_is_counted result before after is failed = rw (ap (λ plan. plan.faults) (is ∙ ap (λ r. after_call (write_failed r) before) failed)) (grind arith)
