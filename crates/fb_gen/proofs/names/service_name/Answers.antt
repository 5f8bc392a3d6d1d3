use Rattle.std.proofs.Common.{◌≡◌, ◌∷◌, [], sym, ap, ◌∙◌, subst, IfOk, arith}
use Rattle.std.specs.Fmt.{decimal}
use Rattle.std.proofs.lemmas.Fmt.{decimal_digit}
use Rattle.fb_gen.proofs.Numerals.{decimal_ten, decimal_eleven, decimal_twelve}
use Rattle.fb_gen.proofs.names.service_name.Goals as goal

pub returns-in-1 : goal.returns-in-1
returns-in-1 c =
    subst (λ read. IfOk read (λ name. name ≡ 115 ∷ 49 ∷ [])) c.unwrap.ensures c.read.ensures.same
    ∙ sym (ap (λ n. 115 ∷ decimal n) c.in-1.is ∙ ap (λ digits. 115 ∷ digits) (decimal_digit 1 (omega arith)))

pub returns-in-2 : goal.returns-in-2
returns-in-2 c =
    subst (λ read. IfOk read (λ name. name ≡ 115 ∷ 50 ∷ [])) c.unwrap-in-2.ensures c.read-in-2.ensures.same
    ∙ sym (ap (λ n. 115 ∷ decimal n) c.in-2.is ∙ ap (λ digits. 115 ∷ digits) (decimal_digit 2 (omega arith)))

pub returns-in-3 : goal.returns-in-3
returns-in-3 c =
    subst (λ read. IfOk read (λ name. name ≡ 115 ∷ 51 ∷ [])) c.unwrap-in-3.ensures c.read-in-3.ensures.same
    ∙ sym (ap (λ n. 115 ∷ decimal n) c.in-3.is ∙ ap (λ digits. 115 ∷ digits) (decimal_digit 3 (omega arith)))

pub returns-in-4 : goal.returns-in-4
returns-in-4 c =
    subst (λ read. IfOk read (λ name. name ≡ 115 ∷ 52 ∷ [])) c.unwrap-in-4.ensures c.read-in-4.ensures.same
    ∙ sym (ap (λ n. 115 ∷ decimal n) c.in-4.is ∙ ap (λ digits. 115 ∷ digits) (decimal_digit 4 (omega arith)))

pub returns-in-5 : goal.returns-in-5
returns-in-5 c =
    subst (λ read. IfOk read (λ name. name ≡ 115 ∷ 53 ∷ [])) c.unwrap-in-5.ensures c.read-in-5.ensures.same
    ∙ sym (ap (λ n. 115 ∷ decimal n) c.in-5.is ∙ ap (λ digits. 115 ∷ digits) (decimal_digit 5 (omega arith)))

pub returns-in-6 : goal.returns-in-6
returns-in-6 c =
    subst (λ read. IfOk read (λ name. name ≡ 115 ∷ 54 ∷ [])) c.unwrap-in-6.ensures c.read-in-6.ensures.same
    ∙ sym (ap (λ n. 115 ∷ decimal n) c.in-6.is ∙ ap (λ digits. 115 ∷ digits) (decimal_digit 6 (omega arith)))

pub returns-in-7 : goal.returns-in-7
returns-in-7 c =
    subst (λ read. IfOk read (λ name. name ≡ 115 ∷ 55 ∷ [])) c.unwrap-in-7.ensures c.read-in-7.ensures.same
    ∙ sym (ap (λ n. 115 ∷ decimal n) c.in-7.is ∙ ap (λ digits. 115 ∷ digits) (decimal_digit 7 (omega arith)))

pub returns-in-8 : goal.returns-in-8
returns-in-8 c =
    subst (λ read. IfOk read (λ name. name ≡ 115 ∷ 56 ∷ [])) c.unwrap-in-8.ensures c.read-in-8.ensures.same
    ∙ sym (ap (λ n. 115 ∷ decimal n) c.in-8.is ∙ ap (λ digits. 115 ∷ digits) (decimal_digit 8 (omega arith)))

pub returns-in-9 : goal.returns-in-9
returns-in-9 c =
    subst (λ read. IfOk read (λ name. name ≡ 115 ∷ 57 ∷ [])) c.unwrap-in-9.ensures c.read-in-9.ensures.same
    ∙ sym (ap (λ n. 115 ∷ decimal n) c.in-9.is ∙ ap (λ digits. 115 ∷ digits) (decimal_digit 9 (omega arith)))

pub returns-in-10 : goal.returns-in-10
returns-in-10 c =
    subst (λ read. IfOk read (λ name. name ≡ 115 ∷ 49 ∷ 48 ∷ [])) c.unwrap-in-10.ensures c.read-in-10.ensures.same
    ∙ sym (ap (λ n. 115 ∷ decimal n) c.in-10.is ∙ ap (λ digits. 115 ∷ digits) (decimal_ten))

pub returns-in-11 : goal.returns-in-11
returns-in-11 c =
    subst (λ read. IfOk read (λ name. name ≡ 115 ∷ 49 ∷ 49 ∷ [])) c.unwrap-in-11.ensures c.read-in-11.ensures.same
    ∙ sym (ap (λ n. 115 ∷ decimal n) c.in-11.is ∙ ap (λ digits. 115 ∷ digits) (decimal_eleven))

pub returns-in_default : goal.returns-in_default
returns-in_default c =
    let last : c.args.service ≡ 12 = omega (arith, c.in_default, c.requires.first, c.requires.last) in
    subst (λ read. IfOk read (λ name. name ≡ 115 ∷ 49 ∷ 50 ∷ [])) c.unwrap-in_default.ensures c.read-in_default.ensures.same
    ∙ sym (ap (λ n. 115 ∷ decimal n) last ∙ ap (λ digits. 115 ∷ digits) (decimal_twelve))
