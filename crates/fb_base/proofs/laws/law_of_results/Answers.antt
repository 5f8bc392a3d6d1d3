use Rattle.fb_base.proofs.TableLaws.{binary_fits_table, unary_fits_table, list_fits_table}
use Rattle.fb_base.proofs.laws.law_of_results.Goals as goal

pub returns : goal.returns
returns c = record { binary = binary_fits_table; unary = unary_fits_table; list = list_fits_table }
