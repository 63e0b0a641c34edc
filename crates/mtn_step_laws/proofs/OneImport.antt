-- The packets of an input come to one thing.
use Rattle.std.proofs.Common.{◌≡◌, ◌+◌, ℕ, List, [], ◌∷◌, Option, Some, None, refl, sym, ap, ◌∙◌, subst, inl, inr}
use Rattle.mtn_base.specs.declared.id.Id.{Id}
use Rattle.mtn_base.specs.declared.refusal.Cause.{Cause}
use Rattle.mtn_base.specs.declared.refusal.Cause.TheVariants.{BadPacket}
use Rattle.mtn_base.specs.declared.refusal.Refusal.{Refusal}
use Rattle.mtn_imports.specs.Imports.{Before, Imports, IsKeyFor, Kept, Matched, Reads, ReadsFrom, ReadsInput, cert_refusal, first_mismatch, kept, new_cert, refusal_of_all, with_cert_of, with_more}
use Rattle.mtn_model.specs.Outcome.{Outcome}
use Rattle.mtn_model.specs.State.{State}
use Rattle.mtn_model.specs.Table.{Table}
use Rattle.mtn_packets.specs.declared.packet.Packet.{Packet}
use Rattle.mtn_packets.specs.declared.packet.Packet.TheVariants as packet
use Rattle.mtn_packets.specs.declared.packet.PacketKey.{PacketKey}
use Rattle.mtn_packets.specs.declared.packet.PacketKey.TheVariants as key
use Rattle.mtn_packets.proofs.Inputs.{no_failure, one_fault, one_list}
use Rattle.mtn_step.specs.Step.{ReadsPackets, read_outcome}
use Rattle.mtn_step_laws.proofs.Decided.{one_decision}

-- a name is of one key at most
pub one_key : (keys : Table) (k : PacketKey) (a b : Option Id) → IsKeyFor keys k a → IsKeyFor keys k b → a ≡ b
one_key keys (key.Id id) a b is also = is ∙ sym also
one_key keys (key.Name name) None None is also = refl
one_key keys (key.Name name) None (Some id) none is = absurd (none id is)
one_key keys (key.Name name) (Some id) None is none = absurd (none id is)
one_key keys (key.Name name) (Some id) (Some other) is also = let same : id.0 ≡ other.0 = also.alone id.0 is.has in λ i. Some (record { 0 = same i })

-- the same refusal, and where there is none the same state and the same counts
abbrev IsOne : {R : Type 0} → Option R → Option R → State → State → Kept → Kept → Type 0
IsOne a b t u m n = (a ≡ b) × (a ≡ None → (t ≡ u) × (m ≡ n))

module _ (f : List ℕ → List ℕ) where
  one_packet : (s : State) (p : Packet) (a b : Option Cause) (t u : State) (m n : Kept) → Reads f s p a t m → Reads f s p b u n → IsOne a b t u m n
  one_packet s (packet.File id bytes) a b t u m n is also = (is.0 ∙ sym also.0, λ none. (is.1 ∙ sym also.1, is.2 ∙ sym also.2))
  one_packet s (packet.Revision id text) a b t u m n is also =
      let one = one_decision f s text a b t u is.0 also.0 in
      (one.0, λ none. (one.1 none, is.1 ∙ sym also.1))
  one_packet s (packet.Cert revision name k value signature) a b t u m n is also =
      let e = one_key s.keys k is.0 also.0 is.1 also.1 in (
        is.2 ∙ ap (λ found. cert_refusal s revision k found value signature) e ∙ sym also.2,
        λ none. (
          is.3 ∙ ap (λ found. with_cert_of s revision name found value signature) e ∙ sym also.3,
          is.4 ∙ ap (λ found. kept 0 0 (new_cert s revision name found value signature)) e ∙ sym also.4,
        ),
      )
  one_packet s packet.Passed a b t u m n is also = (is.0 ∙ sym also.0, λ none. (is.1 ∙ sym also.1, is.2 ∙ sym also.2))

  one_from : (number : ℕ) (s : State) (ps : List Packet) (a b : Option Refusal) (t u : State) (m n : Kept) → ReadsFrom f number s ps a t m → ReadsFrom f number s ps b u n → IsOne a b t u m n
  one_from number s [] a b t u m n is also = (is.0 ∙ sym also.0, λ none. (is.1 ∙ sym also.1, is.2 ∙ sym also.2))
  one_from number s (p ∷ ps) a b t u m n is also =
      let first = one_packet s p is.0 also.0 is.1 also.1 is.2 also.2 is.3 also.3 in
      rest (λ r q x y. one_from (number + 1) is.1 ps a b t u r q x y) is.0 also.0 first.0 first.1 is.4 also.4
    where
      rest : ((r q : Kept) → ReadsFrom f (number + 1) is.1 ps a t r → ReadsFrom f (number + 1) is.1 ps b u q → IsOne a b t u r q) → (own other : Option Cause) → own ≡ other → (own ≡ None → (is.1 ≡ also.1) × (is.2 ≡ also.2)) → Before number own is.2 (λ r v more. ReadsFrom f (number + 1) is.1 ps r v more) a t m → Before number other also.2 (λ r v more. ReadsFrom f (number + 1) also.1 ps r v more) b u n → IsOne a b t u m n
      rest again None None same after x y =
          let both = after refl in
          let z = again x.0 y.0 x.1 (subst (λ mid. ReadsFrom f (number + 1) mid ps b u y.0) (sym both.0) y.1) in
          (z.0, λ none. let last = z.1 none in (last.0, x.2 ∙ (λ i. with_more (both.1 i) (last.1 i)) ∙ sym y.2))
      rest again None (Some cause) same after x y = absurd (let e = same in cc)
      rest again (Some cause) None same after x y = absurd (let e = same in cc)
      rest again (Some cause) (Some other) same after x y =
          let e : cause ≡ other = let both = same in cc in
          (x ∙ ap (λ c. Some (record { packet = number; cause = c })) e ∙ sym y, λ none. absurd (let t = sym x ∙ none in cc))

  one_import : (s : State) (packets : List Packet) (a b : Option Refusal) (t u : State) (m n : Kept) → Imports f s packets a t m → Imports f s packets b u n → IsOne a b t u m n
  one_import s packets a b t u m n = by (first_mismatch f 1 packets)
    where
      by : (o : Option Cause) → Matched o (λ r v more. ReadsFrom f 1 s packets r v more) a t m → Matched o (λ r v more. ReadsFrom f 1 s packets r v more) b u n → IsOne a b t u m n
      by None is also = one_from 1 s packets a b t u m n is also
      by (Some cause) is also = (is ∙ sym also, λ none. absurd (let t = sym is ∙ none in cc))

  one_input : (s : State) (text : List ℕ) (a b : Option Refusal) (t u : State) (m n : Kept) → ReadsInput f s text a t m → ReadsInput f s text b u n → IsOne a b t u m n
  one_input s text a b t u m n (inl x) (inl y) =
      let same = one_fault text x.number y.number x.why y.why x.bad y.bad in
      (x.is ∙ (λ i. refusal_of_all (BadPacket (same.0 i) (same.1 i))) ∙ sym y.is, λ none. absurd (let t = sym x.is ∙ none in cc))
  one_input s text a b t u m n (inl x) (inr y) = absurd (no_failure y.packets text x.number x.why y.spelled x.bad)
  one_input s text a b t u m n (inr x) (inl y) = absurd (no_failure x.packets text y.number y.why x.spelled y.bad)
  one_input s text a b t u m n (inr x) (inr y) =
      one_import s x.packets a b t u m n x.imported (subst (λ packets. Imports f s packets b u n) (one_list y.packets x.packets text y.spelled x.spelled) y.imported)

  same_outcome : (s : State) (a : Option Refusal) (t u : State) (m n : Kept) → (a ≡ None → (t ≡ u) × (m ≡ n)) → read_outcome a s t m ≡ read_outcome a s u n
  same_outcome s None t u m n same = let both = same refl in λ i. read_outcome None s (both.0 i) (both.1 i)
  same_outcome s (Some refusal) t u m n same = refl

  pub one_reading : (text : List ℕ) (s : State) (o p : Outcome) → ReadsPackets f text s o → ReadsPackets f text s p → o ≡ p
  one_reading text s o p is also =
      let one = one_input s text is.refusal also.refusal is.after also.after is.new also.new is.reads also.reads in
      is.is ∙ same_outcome s is.refusal is.after also.after is.new also.new one.1 ∙ ap (λ r. read_outcome r s also.after also.new) one.0 ∙ sym also.is
