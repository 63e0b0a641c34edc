use Rattle.std.proofs.Common.{Some, refl, sym, subst}
use Rattle.mtn_resolve.specs.Texts.{IsRead}
use Rattle.mtn_resolve.proofs.Speaking.{AreSubjects, taken, not_taken, subjects_more}
use Rattle.mtn_resolve.proofs.reading.Part.add.Goals as goal

pub returns-then-not-fresh-clause-err : goal.returns-then-not-fresh-clause-err
returns-then-not-fresh-clause-err c = let r : IsRead c.args.stanza.now (Some c.in-Some.resolution) = subst (IsRead c.args.stanza.now) c.in-Some.is c.in_ok-resolution.ensures in (
  refl,
  (
    c.in-Some.resolution,
    r.0,
    r.1,
    taken c.args.self.now.items c.args.self.now.subjects c.in-Some.resolution c.in_ok-subject.subject c.in-Ok.fresh c.in_ok-subject.ensures c.requires.subjects_are c.in-Ok.ensures.added c.if-not-fresh.true,
  ),
)

pub returns-clause-ok : goal.returns-clause-ok
returns-clause-ok c = let r : IsRead c.args.stanza.now (Some c.in-Some.resolution) = subst (IsRead c.args.stanza.now) c.in-Some.is c.in_ok-resolution.ensures in (
  c.in-Some.resolution,
  r.1,
  r.0,
  not_taken c.args.self.now.items c.args.self.now.subjects c.in-Some.resolution c.in_ok-subject.subject c.in-Ok.fresh c.in_ok-subject.ensures c.requires.subjects_are c.in-Ok.ensures.added c.if-not-fresh.false,
  c.in_ok-push.ensures.ok,
)

pub returns-clause-part : goal.returns-clause-part
returns-clause-part c = record {
  same = refl;
  subjects_are = subst (AreSubjects c.insert.new.self) (sym c.in_ok-push.ensures.ok)
      (subjects_more c.args.self.now.items c.args.self.now.subjects c.insert.new.self c.in-Some.resolution c.in_ok-subject.subject c.in_ok-subject.ensures c.requires.subjects_are c.in-Ok.ensures.updates);
}
