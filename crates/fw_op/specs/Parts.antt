-- What an operation or a name says whose keys and values still lie where they were read.
use Rattle.fw_op.specs.declared.op.Op.{Op}
use Rattle.fw_op.specs.declared.op.Op.TheVariants as ops
use Rattle.fw_op.specs.declared.reply.Name.{Name}
use Rattle.fw_op.specs.declared.parts.NameParts.{NameParts}
use Rattle.fw_op.specs.declared.parts.OpParts.{OpParts}
use Rattle.fw_op.specs.declared.parts.OpParts.TheVariants as parts

abbrev pub plain_op : OpParts → Op
plain_op (parts.Put key value) = ops.Put key.now value.now
plain_op (parts.Get owner key) = ops.Get owner key.now
plain_op (parts.Del key) = ops.Del key.now
plain_op (parts.Cas key old new) = ops.Cas key.now old.now new.now
plain_op (parts.Grant key client) = ops.Grant key.now client
plain_op (parts.Revoke key client) = ops.Revoke key.now client
plain_op parts.Count = ops.Count
plain_op parts.Keys = ops.Keys

abbrev pub plain_name : NameParts → Name
plain_name name = record { owner = name.owner; key = name.key.now }
