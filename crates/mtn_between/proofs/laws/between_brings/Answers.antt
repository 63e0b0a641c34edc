-- Each is that of the node which it takes.
use Rattle.mtn_changes.specs.declared.change.Change.TheVariants.{AddFile, Patch}
use Rattle.mtn_roster.specs.declared.entry.Body.TheVariants.{File}
use Rattle.mtn_changeset_laws.proofs.Renaming.{split_of_contains}
use Rattle.mtn_between.specs.Between.{between}
use Rattle.mtn_between.proofs.Standing.{IsAdd, IsPatch, each_is}
use Rattle.mtn_between.proofs.laws.between_brings.Goals as goal

pub returns : goal.returns
returns c = record {
  added = λ old new p content so sn h.
      let r : IsAdd old new p (File content) = each_is old new so sn (AddFile p content) (split_of_contains (between old new) (AddFile p content) h) in
      (r.f.name, r.f, r.here, r.is);
  patched = λ old new p a b so sn h.
      let r : IsPatch old new p a b = each_is old new so sn (Patch p a b) (split_of_contains (between old new) (Patch p a b) h) in
      (r.f.name, r.f, r.here, r.to);
}
