use Rattle.fb_print.specs.Services.{services_text, test_text}
use Rattle.fb_print.proofs.laws.canonical_texts_are_read_back.Goals as goal

pub returns : goal.returns
returns c =
    let exact = c.services_are_exact.ensures in
    let exact_test = c.tests_are_exact.ensures in
    let printed = c.canonical_texts_have_their_trees.ensures in
    record {
      services = λ bytes tree read. (exact (services_text tree) tree).1 (printed.services bytes tree ((exact bytes tree).0 read));
      test = λ bytes tree read. (exact_test (test_text tree) tree).1 (printed.test bytes tree ((exact_test bytes tree).0 read));
    }
