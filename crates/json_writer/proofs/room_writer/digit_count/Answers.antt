use Rattle.std.proofs.Common.{arith}
use Rattle.std.proofs.lemmas.Fmt.{length-decimal-le}
use Rattle.json_writer.proofs.Fixed.{four_more}
use Rattle.json_writer.proofs.room_writer.digit_count.Goals as goal

pub overflow_add-behind : goal.overflow_add-behind
overflow_add-behind c = omega (arith, length-decimal-le 20 c.args.number (omega arith) (omega arith) (omega arith))

pub overflow_add-result : goal.overflow_add-result
overflow_add-result c = omega (arith, length-decimal-le 20 c.args.number (omega arith) (omega arith) (omega arith))
