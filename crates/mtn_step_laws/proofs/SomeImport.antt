-- The packets of an input come to something.
use Rattle.std.specs.Prelude.{Contains, is_some}
use Rattle.std.specs.FinMap.{contains_key-keys, get, keys}
use Rattle.std.proofs.Common.{◌≡◌, ◌+◌, ℕ, List, [], ◌∷◌, Option, Some, None, refl, sym, ap, ◌∙◌, subst, ⊎_elim, inl, inr}
use Rattle.std.specs.Ordering.{eq_by_cmp}
use Rattle.std.proofs.lemmas.Map.Views.{Contains-from_any}
use Rattle.mtn_base.specs.Lists.{IsListOf}
use Rattle.mtn_base.specs.Names.{bytes_cmp}
use Rattle.mtn_base.specs.declared.id.Id.{Id}
use Rattle.mtn_base.specs.declared.refusal.Cause.{Cause}
use Rattle.mtn_base.specs.declared.refusal.Refusal.{Refusal}
use Rattle.mtn_base.proofs.IdOrder.{contains_cases, contains_head, contains_later, contains_nil}
use Rattle.mtn_base.proofs.Orders.{bytes_total, exact_bytes}
use Rattle.mtn_imports.specs.Imports.{Before, Imports, IsKeyFor, Kept, Matched, Reads, ReadsFrom, first_mismatch, kept, refusal_of_all, with_more}
use Rattle.mtn_imports.proofs.SomePackets.{packets_or_fault}
use Rattle.mtn_model.specs.Keys.{IsAlone}
use Rattle.mtn_model.specs.Outcome.{Outcome}
use Rattle.mtn_model.specs.State.{State}
use Rattle.mtn_model.specs.Table.{Table}
use Rattle.mtn_packets.specs.declared.packet.Packet.{Packet}
use Rattle.mtn_packets.specs.declared.packet.Packet.TheVariants as packet
use Rattle.mtn_packets.specs.declared.packet.PacketKey.{PacketKey}
use Rattle.mtn_packets.specs.declared.packet.PacketKey.TheVariants as key
use Rattle.mtn_replay.specs.Lawful.{IsLawful}
use Rattle.mtn_step.specs.Step.{ReadsPackets}
use Rattle.mtn_step_laws.proofs.CertLists.{some_list, tell_bytes, tied}
use Rattle.mtn_step_laws.proofs.SomeDecision.{some_decision}
use Rattle.mtn_step_laws.proofs.Importing.{ArePacketsFit, lawful_packet, packets_fit}

-- ---- the key of a name

module _ (table : Table) (name : List ℕ) where
  abbrev Named : List ℕ → Type 0
  Named k = get table k ≡ Some name

  tell_named : (k : List ℕ) → Dec (Named k)
  tell_named k = by (get table k) refl
    where
      by : (o : Option (List ℕ)) → get table k ≡ o → Dec (Named k)
      by None e = no (λ held. let both : None ≡ Some name = sym e ∙ held in cc)
      by (Some held) e = elim (tell_bytes held name) [
        | yes same ↦ yes (e ∙ ap Some same)
        | no n ↦ no (λ also. n (let both : Some held ≡ Some name = sym e ∙ also in cc))
      ]

  within : (k : List ℕ) → Named k → Contains (keys table) k
  within k held = Contains-from_any {eq = eq_by_cmp bytes_cmp} (λ x y e. exact_bytes x y (tied (bytes_cmp x y) e)) k (keys table) (sym (contains_key-keys table k) ∙ ap is_some held)

  named_keys : (ks : List (List ℕ)) × IsListOf bytes_cmp Named ks
  named_keys = some_list bytes_cmp bytes_total exact_bytes Named tell_named (keys table) within

  only : (k : List ℕ) → Named k → ((other : List ℕ) → Named other → other ≡ k) → (found : Option Id) × IsKeyFor table (key.Name name) found
  only k is each = (Some (record { 0 = k }), record { has = is; alone = each })

  none_alone : ((id : Id) → IsAlone table name id → ⊥) → (found : Option Id) × IsKeyFor table (key.Name name) found
  none_alone n = (None, n)

  key_of_name : (found : Option Id) × IsKeyFor table (key.Name name) found
  key_of_name = by named_keys.0 (λ k. (named_keys.1.exact k).0) (λ k. (named_keys.1.exact k).1)
    where
      by : (ks : List (List ℕ)) → ((k : List ℕ) → Contains ks k → Named k) → ((k : List ℕ) → Named k → Contains ks k) → (found : Option Id) × IsKeyFor table (key.Name name) found
      by [] of to = none_alone (λ id is. contains_nil (to id.0 is.has))
      by (k ∷ []) of to = only k (of k (contains_head k [])) (λ other held. ⊎_elim (λ e. sym e) (λ c. absurd (contains_nil c)) (contains_cases k [] other (to other held)))
      by (k ∷ l ∷ ks) of to = elim (tell_bytes l k) [
        | yes same ↦ by (k ∷ ks) (λ x c. of x (⊎_elim (λ e. subst (Contains (k ∷ l ∷ ks)) e (contains_head k (l ∷ ks))) (λ d. contains_later k (l ∷ ks) (contains_later l ks d)) (contains_cases k ks x c)))
            (λ x held. ⊎_elim (λ e. subst (Contains (k ∷ ks)) e (contains_head k ks))
            (λ d. ⊎_elim (λ e. subst (Contains (k ∷ ks)) (sym same ∙ e) (contains_head k ks)) (λ c. contains_later k ks c) (contains_cases l ks x d)) (contains_cases k (l ∷ ks) x (to x held)))
        | no n ↦ none_alone (λ id is. n (is.alone l (of l (contains_later k (l ∷ ks) (contains_head l ks))) ∙ sym (is.alone k (of k (contains_head k (l ∷ ks))))))
      ]

some_key : (table : Table) (k : PacketKey) → (found : Option Id) × IsKeyFor table k found
some_key table (key.Id id) = (Some id, refl)
some_key table (key.Name name) = key_of_name table name

-- ---- packets

module _ (f : List ℕ → List ℕ) where
  some_packet : (s : State) (p : Packet) → IsLawful f s → (own : Option Cause) × (t : State) × (new : Kept) × Reads f s p own t new
  some_packet s (packet.File id bytes) law = (_, _, _, (refl, refl, refl))
  some_packet s (packet.Revision id text) law = let d = some_decision f s law text in (d.0, d.1, _, (d.2, refl))
  some_packet s (packet.Cert revision name k value signature) law = let found = some_key s.keys k in (_, _, _, (found.0, found.1, refl, refl, refl))
  some_packet s packet.Passed law = (_, _, _, (refl, refl, refl))

  some_from : (number : ℕ) (s : State) (ps : List Packet) → IsLawful f s → ArePacketsFit ps → (refusal : Option Refusal) × (t : State) × (new : Kept) × ReadsFrom f number s ps refusal t new
  some_from number s [] law fit = (_, _, _, (refl, refl, refl))
  some_from number s (p ∷ ps) law fit = let first = some_packet s p law in by (λ mid lawful. some_from (number + 1) mid ps lawful fit.1) first.0 first.1 first.2 first.3 first.0 refl
    where
      by : ((mid : State) → IsLawful f mid → (refusal : Option Refusal) × (t : State) × (new : Kept) × ReadsFrom f (number + 1) mid ps refusal t new) → (own : Option Cause) (mid : State) (one : Kept) → Reads f s p own mid one → (o : Option Cause) → own ≡ o → (refusal : Option Refusal) × (t : State) × (new : Kept) × ReadsFrom f number s (p ∷ ps) refusal t new
      by again own mid one is (Some cause) e = (Some (record { packet = number; cause = cause }), s, kept 0 0 0, (own, mid, one, is, subst (λ o. Before number o one (λ r u more. ReadsFrom f (number + 1) mid ps r u more) (Some (record { packet = number; cause = cause })) s (kept 0 0 0)) (sym e) refl))
      by again own mid one is None e =
          let rest = again mid (lawful_packet f s p own mid one law fit.0 is e) in
          (rest.0, rest.1, with_more one rest.2, (own, mid, one, is, subst (λ o. Before number o one (λ r u more. ReadsFrom f (number + 1) mid ps r u more) rest.0 rest.1 (with_more one rest.2)) (sym e) (rest.2, rest.3, refl)))

  some_import : (s : State) (packets : List Packet) → IsLawful f s → ArePacketsFit packets → (refusal : Option Refusal) × (t : State) × (new : Kept) × Imports f s packets refusal t new
  some_import s packets law fit = by (first_mismatch f 1 packets)
    where
      by : (o : Option Cause) → (refusal : Option Refusal) × (t : State) × (new : Kept) × Matched o (λ r u more. ReadsFrom f 1 s packets r u more) refusal t new
      by None = some_from 1 s packets law fit
      by (Some cause) = (refusal_of_all cause, s, kept 0 0 0, refl)

  pub some_reading : (s : State) (text : List ℕ) → IsLawful f s → (o : Outcome) × ReadsPackets f text s o
  some_reading s text law = elim (packets_or_fault text) [
    | inl are ↦ let import = some_import s are.0 law (packets_fit are.0 text are.1) in
        (_, record { refusal = import.0; after = import.1; new = import.2; reads = inr (record { packets = are.0; spelled = are.1; imported = import.3 }); is = refl })
    | inr bad ↦ (_, record { refusal = _; after = s; new = kept 0 0 0; reads = inl (record { number = bad.0; why = bad.1; bad = bad.2; is = refl }); is = refl })
  ]
