-- A record of one number has its four bytes.
use Rattle.std.proofs.Common.{ap, ◌∙◌}
use Rattle.base.specs.Bytes.{overwrite}
use Rattle.base.proofs.ByteLaws.{record_one}
use Rattle.base.proofs.bytes.write_u32.Goals as goal

pub returns : goal.returns
returns c = c.write_record.ensures ∙ ap (overwrite c.args.out.now c.args.at) (record_one c.args.x)
