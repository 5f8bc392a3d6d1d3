-- How a `fmt` ends by what its bytes give.
use Rattle.std.proofs.Common.{◌≡◌, ℕ, false, List, [], ◌∷◌, ◌++◌, Option, Some, None, Result, Ok, Err, refl}
use Rattle.std.specs.Option.{IfSome}
use Rattle.std.specs.Prelude.{IfErr, String, string_bytes}
use Rattle.std.specs.Global.{Global}
use Rattle.fb_base.specs.Results.{◌>>=◌}
use Rattle.fb_base.proofs.Results.{ok_then}
use Rattle.fb_files.specs.Files.{Held, Asked}
use Rattle.fb_syntax.specs.Trees.{ServicesTree}
use Rattle.fb_print.specs.Services.{services_text}
use Rattle.fb_cli.specs.declared.status.Role.TheVariants as role
use Rattle.fb_cli.specs.declared.status.Status.{Status}
use Rattle.fb_cli.specs.declared.status.Status.TheVariants.{Good, Refused, Memory}
use Rattle.fb_job.specs.declared.job.Job.TheVariants.{Fmt}
use Rattle.fb_cli.specs.Inputs.{bytes_of, services_read, services_input}
use Rattle.fb_cli.specs.Loading.{GivesInput, EndsText}
use Rattle.fb_cli.specs.Asking.{AsksFor}
use Rattle.fb_cli.specs.Decision.{status_of_services}
use Rattle.fb_cli.specs.Telling.{status_told, text_told}
use Rattle.fb_cli.specs.Texts.{status_text}
use Rattle.fb_cli.specs.Printing.{canonical_text, ending_of}
use Rattle.fb_cli.specs.Answers.{IsJobEnd, IsDecided, HasReadCause, HasWriteCause, IsTextOf}
use Rattle.fb_cli.proofs.Loads.{ended_by_text, AsksFor-services, AsksInput-text, EndsInput-text}

-- a text that is printed is that of a tree, and a refusal is that of the bytes
tree_of_text : (read : Result ServicesTree Status) (text : List ℕ) → (read >>= λ tree. Ok (services_text tree)) ≡ Ok text
    → (tree : ServicesTree) × (read ≡ Ok tree) × (text ≡ services_text tree)
tree_of_text read text is =
    let t = ok_then read (λ tree. Ok (services_text tree)) text is in
    let given = t.2 in
    let same : text ≡ services_text t.0 = cc in
    (t.0, t.1, same)

status_of_text : (read : Result ServicesTree Status) (status : Status) → (read >>= λ tree. Ok (services_text tree)) ≡ Err status → read ≡ Err status
status_of_text (Ok tree) status is = absurd cc
status_of_text (Err refusal) status is = cc

read_input : (name bytes : List ℕ) (told : Option Held) (read : Result ServicesTree Status)
    → IfSome told (λ held. bytes_of role.Services (held name) ≡ Ok bytes) → services_read bytes ≡ read
    → IfSome told (λ held. services_input held name ≡ read)
read_input name bytes None read is reads = tt
read_input name bytes (Some held) read is reads = rw is reads

pub IsJobEnd-printed : (text : Result (String Global) Status) → IfErr text (EndsText role.Services) → IsJobEnd (status_told (ending_of text))
IsJobEnd-printed (Ok text) ends = tt
IsJobEnd-printed (Err status) ends = ended_by_text role.Services IsJobEnd (λ refusal is. tt) tt status ends

pub HasReadCause-printed : (cause : Type 0) (text : Result (String Global) Status) → IfErr text (EndsText role.Services)
    → HasReadCause cause (status_told (ending_of text))
HasReadCause-printed cause (Ok text) ends = tt
HasReadCause-printed cause (Err status) ends = ended_by_text role.Services (HasReadCause cause) (λ refusal is. tt) tt status ends

pub HasWriteCause-printed : (text : Result (String Global) Status) → IfErr text (EndsText role.Services)
    → HasWriteCause ⊥ ⊥ (status_told (ending_of text))
HasWriteCause-printed (Ok text) ends = tt
HasWriteCause-printed (Err status) ends = ended_by_text role.Services (HasWriteCause ⊥ ⊥) (λ refusal is. tt) tt status ends

-- what is decided of held services, by what their bytes give
IsDecided-read : (name bytes : List ℕ) (told : Option Held) (read : Result ServicesTree Status) (status : Status)
    → IsDecided (status_of_services read) status → IfSome told (λ held. bytes_of role.Services (held name) ≡ Ok bytes) → services_read bytes ≡ read
    → IfSome told (λ held. IsDecided (status_of_services (services_input held name)) status)
IsDecided-read name bytes None read status decides is reads = tt
IsDecided-read name bytes (Some held) read status decides is reads = rw (is, reads) decides

pub IsDecided-printed : (name bytes : List ℕ) (told : Option Held) (text : Result (String Global) Status)
    → IfSome told (λ held. bytes_of role.Services (held name) ≡ Ok bytes) → GivesInput string_bytes text (canonical_text bytes)
    → IfErr text (EndsText role.Services) → IfSome told (λ held. IsDecided (status_of_services (services_input held name)) (status_told (ending_of text)))
IsDecided-printed name bytes told (Ok text) is gives ends =
    let t = tree_of_text (services_read bytes) (string_bytes text) gives in
    IsDecided-read name bytes told (Ok t.0) Good refl is t.1
IsDecided-printed name bytes told (Err status) is gives ends =
    ended_by_text role.Services (λ s. GivesInput (string_bytes {Z = Global}) (Err s) (canonical_text bytes) → IfSome told (λ held. IsDecided (status_of_services (services_input held name)) s))
    (λ refusal is_role refuses. IsDecided-read name bytes told (Err (Refused refusal)) (Refused refusal) refl is
    (status_of_text (services_read bytes) (Refused refusal) refuses))
    (λ free. IsDecided-read name bytes told (services_read bytes) Memory tt is refl) status ends gives

IsTextOf-refused : (name : List ℕ) (told : Option Held) (status : Status) → EndsText role.Services status
    → IsTextOf status (Some (Fmt name)) told (status_text [] status)
IsTextOf-refused name told =
    ended_by_text role.Services (λ status. IsTextOf status (Some (Fmt name)) told (status_text [] status)) (λ refusal is. refl) refl

pub IsTextOf-printed : (name bytes : List ℕ) (told : Option Held) (text : Result (String Global) Status)
    → IfSome told (λ held. bytes_of role.Services (held name) ≡ Ok bytes) → GivesInput string_bytes text (canonical_text bytes)
    → IfErr text (EndsText role.Services) → IsTextOf (status_told (ending_of text)) (Some (Fmt name)) told (text_told [] (ending_of text))
IsTextOf-printed name bytes told (Ok text) is gives ends =
    let t = tree_of_text (services_read bytes) (string_bytes text) gives in
    record { tree = t.0; read = read_input name bytes told (Ok t.0) is t.1; printed = t.2 }
IsTextOf-printed name bytes told (Err status) is gives ends = IsTextOf-refused name told status ends

pub AsksFor-printed : (name : List ℕ) (text : Result (String Global) Status) (before after : Asked)
    → IfErr text (EndsText role.Services) → after ≡ before ++ (name, false) ∷ [] → AsksFor (Fmt name) ⊥ (status_told (ending_of text)) before after
AsksFor-printed name (Ok text) before after ends asks = asks
AsksFor-printed name (Err status) before after ends asks =
    AsksFor-services ServicesTree (Fmt name) name [] ⊥ status before after refl refl tt (EndsInput-text role.Services status ends)
    (AsksInput-text ServicesTree role.Services name before after asks status ends)
