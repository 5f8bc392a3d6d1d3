use Rattle.std.proofs.Common.{ℕ, [], refl}
use Rattle.std.specs.Global.{Vec}
use Rattle.fb_base.specs.Count.{Rose}
use Rattle.fb_job.specs.declared.job.Job.TheVariants.{Fmt}
use Rattle.fb_cli.proofs.TellingBoth.{BothTold-weaker}
use Rattle.fb_cli.proofs.Loads.{AsksFor-services}
use Rattle.fb_cli.proofs.Printed.{IsJobEnd-printed, HasReadCause-printed, HasWriteCause-printed, IsDecided-printed, IsTextOf-printed, AsksFor-printed}
use Rattle.fb_cli.proofs.fmt.fmt.Goals as goal

pub returns-in-Ok-clause-ends : goal.returns-in-Ok-clause-ends
returns-in-Ok-clause-ends g c = rw c.ending_of.ensures (IsJobEnd-printed c.canonical_text.result c.canonical_text.ensures.ends)

pub returns-in-Ok-clause-decided : goal.returns-in-Ok-clause-decided
returns-in-Ok-clause-decided g c =
    rw c.ending_of.ensures
    (IsDecided-printed c.args.services.now c.in-Ok.bytes.items (g.F.Files.held c.args.files.now) c.canonical_text.result
    c.in-Ok.ensures.content (rw c.deref.ensures.value at c.canonical_text.ensures.content) c.canonical_text.ensures.ends)

pub returns-in-Ok-clause-text : goal.returns-in-Ok-clause-text
returns-in-Ok-clause-text g c =
    rw c.ending_of.ensures
    (IsTextOf-printed c.args.services.now c.in-Ok.bytes.items (g.F.Files.held c.args.files.now) c.canonical_text.result
    c.in-Ok.ensures.content (rw c.deref.ensures.value at c.canonical_text.ensures.content) c.canonical_text.ensures.ends)

pub returns-in-Ok-clause-read_fault : goal.returns-in-Ok-clause-read_fault
returns-in-Ok-clause-read_fault g c =
    rw c.ending_of.ensures
    (HasReadCause-printed (Rose (g.F.Files.faults c.args.files.now) (g.F.Files.faults c.load_bytes.new.files)) c.canonical_text.result c.canonical_text.ensures.ends)

pub returns-in-Ok-clause-write_fault : goal.returns-in-Ok-clause-write_fault
returns-in-Ok-clause-write_fault g c = rw c.ending_of.ensures (HasWriteCause-printed c.canonical_text.result c.canonical_text.ensures.ends)

pub returns-in-Ok-clause-asked : goal.returns-in-Ok-clause-asked
returns-in-Ok-clause-asked g c =
    rw c.ending_of.ensures
    (BothTold-weaker (g.F.Files.asked c.args.files.now) (g.F.Files.asked c.load_bytes.new.files)
    (λ before after. AsksFor-printed c.args.services.now c.canonical_text.result before after c.canonical_text.ensures.ends)
    c.in-Ok.ensures.asks)

pub returns-in-Err-clause-asked : goal.returns-in-Err-clause-asked
returns-in-Err-clause-asked g c =
    BothTold-weaker (g.F.Files.asked c.args.files.now) (g.F.Files.asked c.load_bytes.new.files)
    (λ before after. AsksFor-services (Vec ℕ) (Fmt c.args.services.now) c.args.services.now [] ⊥ _ before after refl refl tt c.in-Err.ensures.ends)
    c.in-Err.ensures.asks
