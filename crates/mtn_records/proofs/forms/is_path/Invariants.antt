use Rattle.std.proofs.Common.{◌≡◌, ◌≤◌, take}
use Rattle.std.specs.List.{AllWithin}
use Rattle.mtn_base.specs.Comps.{IsComp}
use Rattle.mtn_records.proofs.Lengths.{slashed}
use Rattle.mtn_records.proofs.forms.is_path.Given as goal

-- the length of the components so far, which are lawful
abbrev pub invariant-loop-comp : goal.invariant-loop-comp
invariant-loop-comp l = record {
  length : l.length ≡ slashed (take l.comp-index l.comps);
  low : l.length ≤ 4294967296;
  lawful : AllWithin IsComp l.comps 0 l.comp-index;
}
