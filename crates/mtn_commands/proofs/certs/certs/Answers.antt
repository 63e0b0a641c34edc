use Rattle.std.specs.Prelude.{Contains}
use Rattle.std.specs.FinMap.{get}
use Rattle.std.proofs.Common.{◌≡◌, ◌∙◌, ◌++◌, Err, List, ℕ, sym, ap, subst}
use Rattle.std.proofs.lemmas.Result.{err_from_is_err_and}
use Rattle.mtn_certs.specs.Certificates.{Certificate}
use Rattle.mtn_certs.specs.Listing.{certs_text, name_in}
use Rattle.mtn_history.specs.Certificates.{CertDamage, KeyDamage}
use Rattle.mtn_history.specs.Stands.{IsDraft}
use Rattle.mtn_history.specs.declared.pending.Pending.{Pending}
use Rattle.mtn_ports.proofs.KeptLemmas.{stays_trans}
use Rattle.mtn_step.specs.Step.{Steps}
use Rattle.mtn_step.specs.declared.call.Call.TheVariants.{Certs}
use Rattle.mtn_commands.proofs.CertsLemmas.{cert_is_damage, certs_listed, key_is_damage, read_failed}
use Rattle.mtn_commands.proofs.DraftLemmas.{wanted}
use Rattle.mtn_commands.proofs.certs.certs.Goals as goal

pub returns-in_err-certs-clause-drafts : goal.returns-in_err-certs-clause-drafts
returns-in_err-certs-clause-drafts g c =
    let f = g.I.Ident.meaning c.args.ident.now in
    let p = err_from_is_err_and c.from_residual-in_err-certs.result c.from_residual-in_err-certs.ensures.1 in
    let failed = c.in_err-certs.ensures in
    read_failed f g.K.Keeper.contents g.K.Keeper.leaves g.K.Keeper.faults c.args.draft.now.keeper.now c.text_of.new.self.keeper.now c.certs_of.new.draft.keeper.now c.args.draft.now.pending c.text_of.new.self.pending c.certs_of.new.draft.pending
    (Steps f (Certs c.args.id) c.args.payload.now) CertDamage cert_is_damage c.in_ok-text_of.ensures.asks.stays failed.stays c.in_ok-text_of.ensures.asks.pending
    c.from_residual-in_err-certs.result c.in_err-certs.field-0.0 (p.1 ∙ ap Err p.2) (failed.sound f) failed.damaged (λ e. failed.failed (ap Err e))

pub returns-in_err-names-clause-drafts : goal.returns-in_err-names-clause-drafts
returns-in_err-names-clause-drafts g c =
    let f = g.I.Ident.meaning c.args.ident.now in
    let p = err_from_is_err_and c.from_residual-in_err-names.result c.from_residual-in_err-names.ensures.1 in
    let failed = c.in_err-names.ensures in
    read_failed f g.K.Keeper.contents g.K.Keeper.leaves g.K.Keeper.faults c.args.draft.now.keeper.now c.certs_of.new.draft.keeper.now c.names_of.new.draft.keeper.now c.args.draft.now.pending c.certs_of.new.draft.pending c.names_of.new.draft.pending
    (Steps f (Certs c.args.id) c.args.payload.now) KeyDamage key_is_damage
    (stays_trans g.K.Keeper.contents g.K.Keeper.leaves g.K.Keeper.faults c.args.draft.now.keeper.now c.text_of.new.self.keeper.now c.certs_of.new.draft.keeper.now c.in_ok-text_of.ensures.asks.stays c.in_ok-certs.ensures.stays)
    failed.stays (c.in_ok-certs.ensures.pending ∙ c.in_ok-text_of.ensures.asks.pending)
    c.from_residual-in_err-names.result c.in_err-names.field-0.0 (p.1 ∙ ap Err p.2) (failed.sound f) failed.damaged (λ e. failed.failed (ap Err e))

pub returns-in_err-list-clause-drafts : goal.returns-in_err-list-clause-drafts
returns-in_err-list-clause-drafts g c =
    let f = g.I.Ident.meaning c.args.ident.now in
    let p = err_from_is_err_and c.from_residual-in_err-list.result c.from_residual-in_err-list.ensures.1 in
    wanted f g.K.Keeper.contents g.K.Keeper.leaves g.K.Keeper.faults c.args.draft.now.keeper.now c.names_of.new.draft.keeper.now c.args.draft.now.pending c.names_of.new.draft.pending (Steps f (Certs c.args.id) c.args.payload.now)
    (stays_trans g.K.Keeper.contents g.K.Keeper.leaves g.K.Keeper.faults c.args.draft.now.keeper.now c.certs_of.new.draft.keeper.now c.names_of.new.draft.keeper.now
    (stays_trans g.K.Keeper.contents g.K.Keeper.leaves g.K.Keeper.faults c.args.draft.now.keeper.now c.text_of.new.self.keeper.now c.certs_of.new.draft.keeper.now c.in_ok-text_of.ensures.asks.stays c.in_ok-certs.ensures.stays)
    c.in_ok-names.ensures.stays)
    c.from_residual-in_err-list.result (p.1 ∙ ap Err p.2)

pub returns-clause-drafts : goal.returns-clause-drafts
returns-clause-drafts g c =
    let f = g.I.Ident.meaning c.args.ident.now in
    let id = c.args.id in
    let certs = c.in_ok-certs.certs.items in
    let names = c.in_ok-names.names.items in
    let held = c.in_ok-certs.ensures in
    let named = c.in_ok-names.ensures in
    let same : c.certs_of.new.draft.pending ≡ c.args.draft.now.pending = held.pending ∙ c.in_ok-text_of.ensures.asks.pending in
    record {
      stays = stays_trans g.K.Keeper.contents g.K.Keeper.leaves g.K.Keeper.faults c.args.draft.now.keeper.now c.certs_of.new.draft.keeper.now c.names_of.new.draft.keeper.now
          (stays_trans g.K.Keeper.contents g.K.Keeper.leaves g.K.Keeper.faults c.args.draft.now.keeper.now c.text_of.new.self.keeper.now c.certs_of.new.draft.keeper.now c.in_ok-text_of.ensures.asks.stays held.stays)
          named.stays;
      done = λ k s told draft.
          let asked = named.stays.same k told in
          let between = subst (λ (p : Pending). IsDraft f k p s) (sym c.in_ok-text_of.ensures.asks.pending) draft in
          let after = subst (λ (p : Pending). IsDraft f k p s) (sym same) draft in (
            s,
            certs_listed s id c.text_of.new.out.items c.from_vec.result certs (name_in names) (c.in_ok-text_of.ensures.finds f k s (held.stays.same k asked) draft) (held.found f k s asked between)
                (subst (λ (cs : List Certificate). (x : Certificate) → Contains cs x → name_in names x.key ≡ get s.keys x.key.0) c.deref.ensures.value (named.found f k s told after))
                (c.from_vec.ensures
                ∙ c.in_ok-list.ensures.ok
                ∙ ap (λ (t : List ℕ). t ++ certs_text (name_in c.deref-3.result.now) c.deref-2.result.now) c.clear.ensures.items
                ∙ (λ i. certs_text (name_in (c.deref-3.ensures.value i)) (c.deref-2.ensures.value i))),
            subst (λ (p : Pending). IsDraft f k p s) (sym (named.pending ∙ same)) draft,
          );
      reason = λ counted. tt;
    }
