use Rattle.std.proofs.Common.{◌≡◌, arith, decimal}
use Rattle.std.proofs.lemmas.Fmt.{length-decimal-le}
use Rattle.json_writer.proofs.Rooms.{part_written}
use Rattle.json_writer.proofs.room_writer.long_at.Goals as goal

pub overflow_add-end : goal.overflow_add-end
overflow_add-end c = omega (arith, length-decimal-le 20 c.args.number (omega arith) (omega arith) c.ranges.number.fits)

pub write_digits-requires : goal.write_digits-requires
write_digits-requires c = (omega arith, omega (arith, length-decimal-le 20 c.args.number (omega arith) (omega arith) c.ranges.number.fits))

pub returns-clause-short : goal.returns-clause-short
returns-clause-short c = omega (arith, length-decimal-le 20 c.args.number (omega arith) (omega arith) c.ranges.number.fits)
