use Rattle.std.proofs.Common.{Some, ◌+◌, ◌<◌, ◌^◌, rules}
use Rattle.table_bound.proofs.rows.number_of_entry.Goals as goal

pub overflow_add-result : goal.overflow_add-result
overflow_add-result c = let small : 1 + c.in-Best.most < 2 ^ 32 = c.requires (Some c.in-Best.most) c.in-Best.is in search rules
