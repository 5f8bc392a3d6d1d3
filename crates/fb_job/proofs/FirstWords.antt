-- The job by the first word.
use Rattle.std.proofs.Common.{◌≡◌, refl, List, [], ◌∷◌, map, Some, None, String, Global, rules, string_bytes, slice_get}
use Rattle.fb_job.specs.Jobs.{job_by, job_of_words}

pub by_first : (words : List (String Global)) (command : String Global) → slice_get words 0 ≡ Some command
    → job_by (string_bytes command) (map string_bytes words) ≡ job_of_words (map string_bytes words)
unfolding job_of_words
by_first [] command first = absurd (cc)
by_first (word ∷ rest) command first = let same : word ≡ command = search rules in rw (same) refl

pub without_words : (words : List (String Global)) → slice_get words 0 ≡ None → job_of_words (map string_bytes words) ≡ None
unfolding job_of_words
without_words [] none = refl
without_words (word ∷ rest) none = absurd (cc)
