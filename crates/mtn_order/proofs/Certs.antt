-- What is done to certificates and key names is free of the order of the log.
use Rattle.std.specs.Prelude.{is_none, option_and_then, if◌then◌else◌}
use Rattle.std.specs.FinMap.{insert}
use Rattle.std.specs.List.{AllByRecursion}
use Rattle.std.proofs.Common.{◌≡◌, ℕ, Bool, List, [], ◌∷◌, Option, Some, None, refl, sym, ap, ◌∙◌, subst}
use Rattle.mtn_answers.specs.Queries.{IsProperlyAbove}
use Rattle.mtn_answers.proofs.Lists.{listed_by}
use Rattle.mtn_base.specs.Hex.{id_of}
use Rattle.mtn_base.specs.Ids.{by_id}
use Rattle.mtn_base.specs.Lists.{IsListOf}
use Rattle.mtn_base.specs.declared.id.Id.{Id}
use Rattle.mtn_base.specs.declared.refusal.Cause.TheVariants.{BadField, NoBranch, OneHead, UnknownRevision}
use Rattle.mtn_base.specs.declared.refusal.Field.TheVariants.{Signature}
use Rattle.mtn_branches.specs.Branches.{IsHead, IsMember}
use Rattle.mtn_branches.proofs.HeadLemmas.{alike_heads}
use Rattle.mtn_certs.specs.Certificates.{Certificate, IsIdBytes, certificate, fault_of}
use Rattle.mtn_certs.specs.Order.{cert_cmp}
use Rattle.mtn_changeset_laws.specs.Changes.{or_else}
use Rattle.mtn_history_laws.specs.History.{Revision}
use Rattle.mtn_model.specs.Outcome.{Outcome}
use Rattle.mtn_model.specs.State.{Holds, State}
use Rattle.mtn_plans.specs.Plans.{Merges}
use Rattle.mtn_replay.specs.Certificates.{with_cert, with_key}
use Rattle.mtn_replay.specs.Texts.{text_under}
use Rattle.mtn_replay.proofs.CertLemmas.{lawful_key}
use Rattle.mtn_renaming.specs.Order.{IsSameUpToOrder}
use Rattle.mtn_renaming.specs.Renaming.{IsRenaming}
use Rattle.mtn_renaming.proofs.Renamed.{turned}
use Rattle.mtn_step.specs.Certifying.{AreBranches, AreHeads, certs_text, fault_cause, held_refusal, key_refusal, said_certs, said_refusal, value_lines, with_certs}
use Rattle.mtn_step.specs.Step.{certified, done, id_line, id_lines, refused, unless, Commits, HeadsMerged, Listed, OfHistory}
use Rattle.mtn_step.specs.declared.call.Said.{Said}
use Rattle.mtn_step_laws.proofs.Certifying.{IsFit, both_none, fit_of, held_after, lawful_fit, named_field, said_fit}
use Rattle.mtn_order.specs.Free.{IsOrderFree, IsSameOutcome}
use Rattle.mtn_order.proofs.Framing.{is_outcome, of_history_free, same_done, same_refused, same_unless}
use Rattle.mtn_order.proofs.Plans.{planned_there}
use Rattle.mtn_order.proofs.Queries.{properly_there}
use Rattle.mtn_order.proofs.Revisions.{comes_to}
use Rattle.mtn_order.proofs.Texts.{same_text}

-- ---- one more certificate in two states

pub same_with_cert : (f : List ℕ → List ℕ) (s t : State) (c : Certificate) → IsSameUpToOrder f s t → IsFit s.log c → IsFit t.log c → IsSameUpToOrder f (with_cert s c) (with_cert t c)
same_with_cert f s t c same fit also = record {
  one = lawful_fit f s c same.one fit;
  other = lawful_fit f t c same.other also;
  files = same.files;
  texts = same.texts;
  certs = ap (λ m. insert m c tt) same.certs;
  keys = same.keys;
}

same_with_certs : (f : List ℕ → List ℕ) (certs : List Certificate) (s t : State) → IsSameUpToOrder f s t → AllByRecursion (IsFit s.log) certs → AllByRecursion (IsFit t.log) certs → IsSameUpToOrder f (with_certs s certs) (with_certs t certs)
same_with_certs f [] s t same fit also = same
same_with_certs f (c ∷ certs) s t same fit also = same_with_certs f certs (with_cert s c) (with_cert t c) (same_with_cert f s t c same fit.0 also.0) fit.1 also.1

same_with_key : (f : List ℕ → List ℕ) (s t : State) (id : Id) (name : List ℕ) → IsSameUpToOrder f s t → IsIdBytes id.0 → key_refusal s id name ≡ None → key_refusal t id name ≡ None → IsSameUpToOrder f (with_key s id name) (with_key t id name)
same_with_key f s t id name same twenty fine also = record {
  one = lawful_key f s id name same.one twenty (named_field s id name fine);
  other = lawful_key f t id name same.other twenty (named_field t id name also);
  files = same.files;
  texts = same.texts;
  certs = same.certs;
  keys = ap (λ m. insert m id.0 name) same.keys;
}

-- ---- the commands

module _ (f : List ℕ → List ℕ) (s t : State) (same : IsSameUpToOrder f s t) where
  pub text_there : (id : List ℕ) → text_under t.log id ≡ text_under s.log id
  text_there id = same_text f t.files t.log same.other.history same.other.log s.log id same.texts

  same_held : (c : Certificate) → held_refusal t c ≡ held_refusal s c
  same_held c = ap (λ o. or_else (option_and_then fault_cause (fault_of c)) (if is_none o then Some (UnknownRevision c.revision) else None)) (text_there c.revision.0)

  pub certified_there : (revision key : Id) (name value : List ℕ) (signature : Option (List ℕ)) (o : Outcome) → IsIdBytes revision.0 → IsIdBytes key.0 → o ≡ certified s revision name key value signature →
      (p : Outcome) × (p ≡ certified t revision name key value signature) × IsSameOutcome f o p
  certified_there revision key name value None o ids by e = (refused (BadField Signature) t, refl, is_outcome f o (refused (BadField Signature) s) (refused (BadField Signature) t) e (same_refused f s t same (BadField Signature)))
  certified_there revision key name value (Some signature) o ids by e =
      let c = certificate revision name key value signature in
      let r = held_refusal s c in
      let p = unless r t (with_cert t c) [] in (
        p,
        ap (λ q. unless q t (with_cert t c) []) (sym (same_held c)),
        is_outcome f o (unless r s (with_cert s c) []) p e
            (same_unless f s t same r (with_cert s c) (with_cert t c) [] (λ fine. same_with_cert f s t c same (fit_of s c fine ids by) (fit_of t c (same_held c ∙ fine) ids by))),
      )

  listed : (id : Id) (held : Option (List ℕ)) (o : Outcome) → Listed s id o held → (p : Outcome) × Listed t id p held × IsSameOutcome f o p
  listed id None o e = (refused (UnknownRevision id) t, refl, is_outcome f o (refused (UnknownRevision id) s) (refused (UnknownRevision id) t) e (same_refused f s t same (UnknownRevision id)))
  listed id (Some text) o e =
      let certs = e.0 in
      let line = certs_text s certs in
      let p = done t line in (
        p,
        (certs, subst (λ m. IsListOf cert_cmp (λ c. Holds m c × (c.revision ≡ id)) certs) same.certs e.1, λ i. done t (certs_text (record t { keys = same.keys i }) certs)),
        is_outcome f o (done s line) p e.2 (same_done f s t same line),
      )

  pub listed_there : (id : Id) (o : Outcome) → Listed s id o (text_under s.log id.0) → (p : Outcome) × Listed t id p (text_under t.log id.0) × IsSameOutcome f o p
  listed_there id o e = subst (λ held. (p : Outcome) × Listed t id p held × IsSameOutcome f o p) (sym (text_there id.0)) (listed id (text_under s.log id.0) o e)

  same_key : (id : Id) (name : List ℕ) → key_refusal t id name ≡ key_refusal s id name
  same_key id name = ap (λ keys. key_refusal (record s { keys = keys }) id name) (sym same.keys)

  pub named_there : (id : Id) (name : List ℕ) (o : Outcome) → IsIdBytes id.0 → o ≡ unless (key_refusal s id name) s (with_key s id name) [] → (p : Outcome) × (p ≡ unless (key_refusal t id name) t (with_key t id name) []) × IsSameOutcome f o p
  named_there id name o twenty e =
      let r = key_refusal s id name in
      let p = unless r t (with_key t id name) [] in (
        p,
        ap (λ q. unless q t (with_key t id name) []) (sym (same_key id name)),
        is_outcome f o (unless r s (with_key s id name) []) p e
            (same_unless f s t same r (with_key s id name) (with_key t id name) [] (λ fine. same_with_key f s t id name same twenty fine (same_key id name ∙ fine))),
      )

  pub branches_there : (o : Outcome) → (branches : List (List ℕ)) × AreBranches s branches × (o ≡ done s (value_lines branches)) → (p : Outcome) × ((branches : List (List ℕ)) × AreBranches t branches × (p ≡ done t (value_lines branches))) × IsSameOutcome f o p
  branches_there o e =
      let line = value_lines e.0 in (
        done t line,
        (e.0, subst (λ certs. AreBranches (record t { certs = certs }) e.0) same.certs e.1, refl),
        is_outcome f o (done s line) (done t line) e.2 (same_done f s t same line),
      )

-- a revision with what is said of it
pub commits_free : (f : List ℕ → List ℕ) (said : Said) (text : List ℕ) → IsIdBytes (f text) → IsIdBytes said.key.0 → IsOrderFree f (Commits f said text)
commits_free f said text revision key s t o same does =
    let e = comes_to f s t same text does.refusal does.after does.decides in
    let line = id_line (f text) in
    let certs = said_certs (id_of (f text)) said in
    let r = or_else does.refusal (said_refusal said) in
    let p = unless r t (with_certs e.0 certs) line in (
      p,
      record { refusal = does.refusal; after = e.0; decides = e.1; is = refl },
      is_outcome f o (unless r s (with_certs does.after certs) line) p does.is (same_unless f s t same r (with_certs does.after certs) (with_certs e.0 certs) line (λ fine.
          let none = both_none does.refusal (said_refusal said) fine in
          same_with_certs f certs does.after e.0 (e.2 none.0)
          (said_fit does.after.log (id_of (f text)) said revision key (held_after f s text does.refusal does.after does.decides none.0) none.1)
          (said_fit e.0.log (id_of (f text)) said revision key (held_after f t text does.refusal e.0 e.1 none.0) none.1))),
    )

-- ---- heads

heads_there : (f : List ℕ → List ℕ) (s t : State) → IsSameUpToOrder f s t → (h g : List Revision) (to back : ℕ → ℕ) → IsRenaming h g to back → (branch : List ℕ) (ids : List Id) → AreHeads s h branch ids → AreHeads t g branch ids
heads_there f s t same h g to back is branch ids list =
    let member = IsMember (Holds s.certs) branch in
    let alike = alike_heads (IsProperlyAbove h) (IsProperlyAbove g) member member (λ x r. (properly_there h g to back is x r, properly_there g h back to (turned h g to back is) x r)) (λ r. (λ m. m, λ m. m)) in
    subst (λ certs. IsListOf by_id (IsHead (IsProperlyAbove g) (IsMember (Holds certs) branch)) ids) same.certs
    (listed_by by_id (IsHead (IsProperlyAbove h) member) (IsHead (IsProperlyAbove g) member) ids (λ x. (alike x).0) (λ x. (alike x).1) list)

abbrev Headed : List ℕ → (List Revision → State → List Id → Outcome → Type 0) → List Revision → State → Outcome → Type 0
Headed branch Does h s o = (ids : List Id) × AreHeads s h branch ids × Does h s ids o

headed_free : (f : List ℕ → List ℕ) (branch : List ℕ) (Does : List Revision → State → List Id → Outcome → Type 0) →
    ((s t : State) → IsSameUpToOrder f s t → (h g : List Revision) (to back : ℕ → ℕ) → IsRenaming h g to back → (ids : List Id) (o : Outcome) → Does h s ids o → (p : Outcome) × Does g t ids p × IsSameOutcome f o p) →
    IsOrderFree f (λ s o. OfHistory f s (λ h. Headed branch Does h s o))
headed_free f branch Does kept = of_history_free f (Headed branch Does) (λ s t h g to back o same is e.
    let p = kept s t same h g to back is e.0 o e.2 in
    (p.0, (e.0, heads_there f s t same h g to back is branch e.0 e.1, p.1), p.2))

pub heads_free : (f : List ℕ → List ℕ) (branch : List ℕ) → IsOrderFree f (λ s o. OfHistory f s (λ h. (ids : List Id) × AreHeads s h branch ids × (o ≡ done s (id_lines ids))))
heads_free f branch = headed_free f branch (λ h s ids o. o ≡ done s (id_lines ids)) (λ s t same h g to back is ids o e.
    (done t (id_lines ids), refl, is_outcome f o (done s (id_lines ids)) (done t (id_lines ids)) e (same_done f s t same (id_lines ids))))

module _ (f : List ℕ → List ℕ) (ids_made : (text : List ℕ) → IsIdBytes (f text)) (said : Id → Id → Said) (made_by : (l r : Id) → IsIdBytes (said l r).key.0) (resolves : Bool) (payload : List ℕ) where
  abbrev MergesHeads : List Revision → State → List Id → Outcome → Type 0
  MergesHeads h s ids o = HeadsMerged (λ l r. Merges f s.files h l r resolves payload) (λ l r. Commits f (said l r)) s o ids

  merged_there : (s t : State) → IsSameUpToOrder f s t → (h g : List Revision) (to back : ℕ → ℕ) → IsRenaming h g to back → (ids : List Id) (o : Outcome) → MergesHeads h s ids o → (p : Outcome) × MergesHeads g t ids p × IsSameOutcome f o p
  merged_there s t same h g to back is [] o e = (refused NoBranch t, refl, is_outcome f o (refused NoBranch s) (refused NoBranch t) e (same_refused f s t same NoBranch))
  merged_there s t same h g to back is (head ∷ []) o e = (refused (OneHead head) t, refl, is_outcome f o (refused (OneHead head) s) (refused (OneHead head) t) e (same_refused f s t same (OneHead head)))
  merged_there s t same h g to back is (l ∷ r ∷ rest) o e =
      planned_there f s t same h g to back is l r resolves payload (Commits f (said l r)) (λ text. commits_free f (said l r) text (ids_made text) (made_by l r)) o e

  pub merges_heads_free : (branch : List ℕ) → IsOrderFree f (λ s o. OfHistory f s (λ h. Headed branch MergesHeads h s o))
  merges_heads_free branch = headed_free f branch MergesHeads merged_there
