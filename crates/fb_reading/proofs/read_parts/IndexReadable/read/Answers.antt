use Rattle.std.proofs.Common.{sym, ◌∙◌}
use Rattle.fb_reading.proofs.Readings.{no-root, same-text}
use Rattle.fb_reading.proofs.read_parts.IndexReadable.read.Goals as goal

pub returns-then-len-eq0-clause-refused : goal.returns-then-len-eq0-clause-refused
returns-then-len-eq0-clause-refused c is tree =
    no-root c.index_of_text.ensures c.in-Some.text.now c.in-Ok.index tree.0 c.proper.ensures (sym c.len.ensures ∙ c.if-len-eq0.true) (sym c.as_bytes.ensures.value ∙ c.in-Ok.ensures.read) tree.1.0 tree.1.1
    (same-text _ _ _ c.in-Some.ensures tree.2)
