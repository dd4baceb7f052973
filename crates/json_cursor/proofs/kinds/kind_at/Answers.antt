use Rattle.std.proofs.Common.{arith}
use Rattle.json_cursor.proofs.PrefixKinds.{nothing_first, null_first, true_first, false_first, text_first, array_first, object_first, number_first}
use Rattle.json_cursor.proofs.kinds.kind_at.Goals as goal

pub returns-in_default : goal.returns-in_default
returns-in_default c d v rest prefix = nothing_first _ d v rest prefix c.in_default.ensures _

pub returns-in-110 : goal.returns-in-110
returns-in-110 c d v rest prefix = null_first _ d v rest prefix _ _ c.in-Some.ensures c.in-110.is

pub returns-in-116 : goal.returns-in-116
returns-in-116 c d v rest prefix = true_first _ d v rest prefix _ _ c.in-Some.ensures c.in-116.is

pub returns-in-102 : goal.returns-in-102
returns-in-102 c d v rest prefix = false_first _ d v rest prefix _ _ c.in-Some.ensures c.in-102.is

pub returns-in-34 : goal.returns-in-34
returns-in-34 c d v rest prefix = text_first _ d v rest prefix _ _ c.in-Some.ensures c.in-34.is

pub returns-in-91 : goal.returns-in-91
returns-in-91 c d v rest prefix = array_first _ d v rest prefix _ _ c.in-Some.ensures c.in-91.is

pub returns-in-123 : goal.returns-in-123
returns-in-123 c d v rest prefix = object_first _ d v rest prefix _ _ c.in-Some.ensures c.in-123.is

pub returns-in_default-first : goal.returns-in_default-first
returns-in_default-first c d v rest prefix = number_first _ d v rest prefix _ _ c.in-Some.ensures (omega arith) (omega arith) (omega arith) (omega arith) (omega arith) (omega arith)
