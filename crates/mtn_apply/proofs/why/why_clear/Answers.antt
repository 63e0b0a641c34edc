-- An old node's keys ascend.
use Rattle.std.proofs.Common.{option_map}
use Rattle.mtn_apply.specs.Old.{seen}
use Rattle.mtn_apply.specs.Index.{old_of, changes_of}
use Rattle.mtn_apply.proofs.OldKeys.{rising_keys}
use Rattle.mtn_apply.proofs.why.why_clear.Goals as goal

pub old_value-requires : goal.old_value-requires
old_value-requires c = record {
  rising = rising_keys (old_of c.args.edge.now) (changes_of c.args.edge.now) c.requires.sane c.comps.result.now (option_map seen c.in_ok-there.there) c.in_ok-there.ensures.value;
}
