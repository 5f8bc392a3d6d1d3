use Rattle.std.proofs.Common.{◌≡◌, false, true, decimal, sym, ◌∙◌, subst, arith}
use Rattle.fb_base.specs.Name.{IsName}
use Rattle.fb_reading.proofs.Numerals.{decimal-free}
use Rattle.fb_reading.proofs.Signs.{free-whole, parted-same}
use Rattle.fb_reading.proofs.texts.site_and_code.Goals as goal

pub returns-in_default : goal.returns-in_default
returns-in_default c site code is named same = free-whole 32 c.args.text.now (decimal site) code c.in_default.ensures same

pub returns-in_default-number_of : goal.returns-in_default-number_of
returns-in_default-number_of c site code is named same =
    let parts = parted-same 32 c.in-Some.site.now (decimal site) c.in-Some.code.now code c.in-Some.ensures.0 (decimal-free 32 site (omega arith) (omega (arith, is))) (sym c.in-Some.ensures.1 ∙ same) in
    c.in_default-number_of.ensures site is parts.0

pub returns-in_default-read : goal.returns-in_default-read
returns-in_default-read c site code is named same =
    let parts = parted-same 32 c.in-Some.site.now (decimal site) c.in-Some.code.now code c.in-Some.ensures.0 (decimal-free 32 site (omega arith) (omega (arith, is))) (sym c.in-Some.ensures.1 ∙ same) in
    let clash : false ≡ true = c.in_default-read.ensures.named.1 (subst IsName (sym (c.as_bytes.ensures.value ∙ parts.1)) named) in
    cc
