use Rattle.std.proofs.Common.{◌≡◌, true, false, Some, refl, sym, ◌∙◌, subst}
use Rattle.std.specs.List.{list_any}
use Rattle.std.specs.BTreeMap.{is_at}
use Rattle.mtn_base.specs.Ids.{by_id}
use Rattle.mtn_base.specs.Names.{bytes_cmp}
use Rattle.mtn_certs.specs.declared.cert.KeyName.{KeyName}
use Rattle.mtn_certs.specs.KeyTables.{IsRead}
use Rattle.mtn_certs.specs.ReadingTables.{AreIds, AreTheNames}
use Rattle.mtn_certs.proofs.FreshKeys.{taken, not_taken, one_more, by_the_id, by_the_name, by_neither}
use Rattle.mtn_certs.proofs.key_reading.Part.add.Goals as goal

pub returns-then-not-fresh_id-clause-err : goal.returns-then-not-fresh_id-clause-err
returns-then-not-fresh_id-clause-err c = let r : IsRead c.args.stanza.now (Some c.in-Some.key) = subst (IsRead c.args.stanza.now) c.in-Some.is c.in_ok-key.ensures in (
  refl,
  (
    c.in-Some.key,
    r.0,
    r.1,
    by_the_id c.args.self.now.items c.in-Some.key
        (taken by_id (λ (k : KeyName). k.id) c.args.self.now.items c.args.self.now.ids c.in-Some.key.id c.in-Ok.fresh_id c.requires.ids_are c.in-Ok.ensures.added c.if-not-fresh_id.true),
  ),
)

pub returns-then-not-fresh_name-clause-err : goal.returns-then-not-fresh_name-clause-err
returns-then-not-fresh_name-clause-err c = let r : IsRead c.args.stanza.now (Some c.in-Some.key) = subst (IsRead c.args.stanza.now) c.in-Some.is c.in_ok-key.ensures in (
  refl,
  (
    c.in-Some.key,
    r.0,
    r.1,
    by_the_name c.args.self.now.items c.in-Some.key
        (subst (λ n. list_any (λ k. is_at (bytes_cmp k.name) n) c.args.self.now.items ≡ true) (c.in_ok-name.ensures ∙ c.as_slice.ensures)
        (taken bytes_cmp (λ (k : KeyName). k.name) c.args.self.now.items c.args.self.now.names c.in_ok-name.name c.in-Ok-insert.fresh_name c.requires.names_are c.in-Ok-insert.ensures.added c.if-not-fresh_name.true)),
  ),
)

pub returns-clause-ok : goal.returns-clause-ok
returns-clause-ok c = let r : IsRead c.args.stanza.now (Some c.in-Some.key) = subst (IsRead c.args.stanza.now) c.in-Some.is c.in_ok-key.ensures in (
  c.in-Some.key,
  r.1,
  r.0,
  by_neither c.args.self.now.items c.in-Some.key
      (not_taken by_id (λ (k : KeyName). k.id) c.args.self.now.items c.args.self.now.ids c.in-Some.key.id c.in-Ok.fresh_id c.requires.ids_are c.in-Ok.ensures.added c.if-not-fresh_id.false)
      (subst (λ n. list_any (λ k. is_at (bytes_cmp k.name) n) c.args.self.now.items ≡ false) (c.in_ok-name.ensures ∙ c.as_slice.ensures)
      (not_taken bytes_cmp (λ (k : KeyName). k.name) c.args.self.now.items c.args.self.now.names c.in_ok-name.name c.in-Ok-insert.fresh_name c.requires.names_are c.in-Ok-insert.ensures.added c.if-not-fresh_name.false)),
  c.in_ok-push.ensures.ok,
)

pub returns-clause-part : goal.returns-clause-part
returns-clause-part c = record {
  same = refl;
  ids_are = subst (AreIds c.insert.new.self) (sym c.in_ok-push.ensures.ok)
      (one_more by_id (λ (k : KeyName). k.id) c.args.self.now.items c.args.self.now.ids c.insert.new.self c.in-Some.key c.in-Some.key.id refl c.requires.ids_are c.in-Ok.ensures.updates);
  names_are = subst (AreTheNames c.insert-2.new.self) (sym c.in_ok-push.ensures.ok)
      (one_more bytes_cmp (λ (k : KeyName). k.name) c.args.self.now.items c.args.self.now.names c.insert-2.new.self c.in-Some.key c.in_ok-name.name (c.in_ok-name.ensures ∙ c.as_slice.ensures) c.requires.names_are c.in-Ok-insert.ensures.updates);
}
