use Rattle.std.proofs.Common.{◌≡◌, ◌++◌, ap, ◌∙◌, codes, string_bytes}
use Rattle.fb_gen.specs.Trees.{service_name}
use Rattle.fb_gen.proofs.Later.{three_more}
use Rattle.fb_gen.proofs.faults.push_item.Goals as goal

pub returns : goal.returns
returns c =
    let begin = codes "[[fault]]\ncallee = \"" in
    let end = codes "\"\ncodes = [\"timeout\"]\n\n" in
    let name = service_name c.args.service in
    let named = c.as_str.ensures ∙ c.service_name.ensures in
    c.in_ok-push_str-3.ensures.bytes
    ∙ ap (λ text. text ++ end)
    (c.in_ok-push_str-2.ensures.bytes ∙ ap (λ part. string_bytes c.push_str.new.self ++ part) named ∙ ap (λ text. text ++ name) c.in_ok-push_str.ensures.bytes)
    ∙ three_more (string_bytes c.args.text.now) begin name end
