-- `repair_area::area` meets its contract: coordinates within the limit leave each number on the way room. Assumes nothing.
use Rattle.repair_area.specs.Areas.{product_bits_fit, area_fits, area_is}
use Rattle.repair_area.proofs.area.Goals as goal

pub overflow_mul-result : goal.overflow_mul-result
overflow_mul-result c = search product_bits_fit

pub overflow_mul-result-2 : goal.overflow_mul-result-2
overflow_mul-result-2 c = search product_bits_fit

pub overflow_sub-result-5 : goal.overflow_sub-result-5
overflow_sub-result-5 c = search area_fits

pub returns : goal.returns
returns c = search area_is
