use Rattle.std.proofs.Common.{◌∙◌}
use Rattle.fb_index.proofs.ReadValues.{int-utf8, int-unparsed, int-other, not-same}
use Rattle.fb_index.proofs.value.read_int.Goals as goal

pub returns-in_default : goal.returns-in_default
returns-in_default c is = c.in_default.ensures.cases.0 (int-utf8 c.args.bytes.now is)

pub returns-in_default-parse : goal.returns-in_default-parse
returns-in_default-parse c =
    int-unparsed c.args.bytes.now c.in-Ok.text.now c.parse.result _ c.in-Ok.ensures.cases.0 c.parse.ensures.value.0 c.in_default-parse.is

pub returns-then-ne : goal.returns-then-ne
returns-then-ne c =
    int-other c.args.bytes.now c.in-Ok.text.now c.as_bytes.result.now c.parse.result c.in-Ok-parse.number c.in-Ok.ensures.cases.0
    c.parse.ensures.value.0 c.in-Ok-parse.is (c.as_bytes.ensures.value ∙ c.in_ok-spell.ensures)
    (not-same c.as_bytes.result.now c.args.bytes.now c.ne.result c.ne.ensures c.if-ne.true)
