-- There are no more readers than clients.
use Rattle.std.proofs.Common.{arith}
use Rattle.fw_record.proofs.Rising.{few_readers}
use Rattle.fw_record.proofs.writing.add_readers.Goals as goal

pub overflow_cast-readers : goal.overflow_cast-readers
overflow_cast-readers c = omega (arith, few_readers 8 c.args.readers.now c.requires.below c.requires.ascending)
