use Rattle.std.proofs.Common.{◌≡◌, false, true, refl, sym, ◌∙◌, subst}
use Rattle.fb_base.specs.Name.{IsName}
use Rattle.fb_reading.proofs.Numerals.{name-free}
use Rattle.fb_reading.proofs.Signs.{free-whole, parted-same}
use Rattle.fb_reading.proofs.texts.method_of.Goals as goal

pub returns-in_default : goal.returns-in_default
returns-in_default c name is same = free-whole 46 c.args.text.now name.service name.method c.in_default.ensures same

pub returns-in_default-read : goal.returns-in_default-read
returns-in_default-read c name is same =
    let parts = parted-same 46 c.in-Some.service.now name.service c.in-Some.method.now name.method c.in-Some.ensures.0 (name-free 46 _ refl refl is.0) (sym c.in-Some.ensures.1 ∙ same) in
    let clash : false ≡ true = c.in_default-read.ensures.named.1 (subst IsName (sym (c.as_bytes.ensures.value ∙ parts.0)) is.0) in
    cc

pub returns-in_default-read-2 : goal.returns-in_default-read-2
returns-in_default-read-2 c name is same =
    let parts = parted-same 46 c.in-Some.service.now name.service c.in-Some.method.now name.method c.in-Some.ensures.0 (name-free 46 _ refl refl is.0) (sym c.in-Some.ensures.1 ∙ same) in
    let clash : false ≡ true = c.in_default-read-2.ensures.named.1 (subst IsName (sym (c.as_bytes-2.ensures.value ∙ parts.1)) is.1) in
    cc
