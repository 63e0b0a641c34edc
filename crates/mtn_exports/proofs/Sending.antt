-- What is sent is one list, and there is one.
use Rattle.std.specs.Prelude.{Contains}
use Rattle.std.proofs.Common.{◌≡◌, ℕ, List, [], ◌∷◌, ◌++◌, Option, Some, None, Ok, Err, refl, sym, ap, ◌∙◌, subst}
use Rattle.std.proofs.lemmas.List.{append-nil, append_assoc}
use Rattle.mtn_answers.specs.Queries.{IsAbove, IsHeld, first_unknown}
use Rattle.mtn_answers.specs.Views.{TextAnswer}
use Rattle.mtn_answers.specs.declared.query.Query.TheVariants.{AncestryDifference}
use Rattle.mtn_answers.proofs.Existing.{some_answer}
use Rattle.mtn_answers.proofs.Orders.{one_answer}
use Rattle.mtn_base.specs.declared.id.Id.{Id}
use Rattle.mtn_base.specs.declared.refusal.Cause.TheVariants.{UnknownRevision}
use Rattle.mtn_base.proofs.IdOrder.{contains_head, contains_later, one_list, one_way_of}
use Rattle.mtn_certs.specs.Certificates.{Certificate}
use Rattle.mtn_certs.specs.Order.{cert_cmp}
use Rattle.mtn_certs.proofs.Certs.{certs_total}
use Rattle.mtn_changes.specs.declared.change.Revision.{Revision as Spelled}
use Rattle.mtn_changes.proofs.OneValue.{same_revision}
use Rattle.mtn_history_laws.specs.History.{Revision}
use Rattle.mtn_model.specs.State.{State}
use Rattle.mtn_packets.specs.declared.packet.Packet.{Packet}
use Rattle.mtn_replay.specs.Lawful.{IsHistory}
use Rattle.mtn_replay.specs.Making.{new_contents}
use Rattle.mtn_replay.specs.Texts.{text_under}
use Rattle.mtn_replay.proofs.Histories.{history_is_grown}
use Rattle.mtn_exports.specs.Exports.{AreCertsOf, AreSent, Brings, IsExported, IsExportedIn, IsSent, new_to, packets_text, packets_with}
use Rattle.mtn_exports.proofs.Contents.{has_text, text_spells}

module _ (s : State) (id : Id) where
  same_text : (a b : List ℕ) → text_under s.log id.0 ≡ Some a → text_under s.log id.0 ≡ Some b → a ≡ b
  same_text a b x y = let both : Some a ≡ Some b = sym x ∙ y in cc

  same_contents : (text : List ℕ) (a b : List Id) → Brings s id text a → Brings s id text b → a ≡ b
  same_contents text a b x y =
      x.is ∙ ap (λ (r : Spelled). new_contents r.edges) (same_revision text x.read y.read x.spells.stanzas y.spells.stanzas x.spells.reads y.spells.reads) ∙ sym y.is

  same_certs : (a b : List Certificate) → AreCertsOf s id a → AreCertsOf s id b → a ≡ b
  same_certs a b x y =
      one_list cert_cmp (one_way_of certs_total) a b x.ascending y.ascending (λ c held. (y.exact c).1 ((x.exact c).0 held)) (λ c held. (x.exact c).1 ((y.exact c).0 held))

  one_sent : (before files also : List Id) (own other : List Packet) → IsSent s before id files own → IsSent s before id also other → (files ≡ also) × (own ≡ other)
  one_sent before files also own other a b =
      let text : a.text ≡ b.text = same_text a.text b.text a.brings.held b.brings.held in
      let contents : a.contents ≡ b.contents = same_contents b.text a.contents b.contents (subst (λ t. Brings s id t a.contents) text a.brings) b.brings in
      let new : files ≡ also = a.new ∙ ap (new_to before) contents ∙ sym b.new in
      let certs : a.certs ≡ b.certs = same_certs a.certs b.certs a.said b.said in
      (new, a.are ∙ (λ i. packets_with s (new i) id (text i) (certs i)) ∙ sym b.are)

all_one : (s : State) (ids before after also : List Id) (packets others : List Packet) → AreSent s before ids packets after → AreSent s before ids others also → packets ≡ others
all_one s [] before after also packets others a b = a.0 ∙ sym b.0
all_one s (id ∷ ids) before after also packets others a b =
    let same = one_sent s id before a.0 b.0 a.1 b.1 a.3 b.3 in
    let rest : a.2 ≡ b.2 = all_one s ids (before ++ a.0) after also a.2 b.2 a.4 (subst (λ files. AreSent s (before ++ files) ids b.2 also) (sym same.0) b.4) in
    a.5 ∙ (λ i. same.1 i ++ rest i) ∙ sym b.5

module _ (s : State) (h : List Revision) (id : Id) (have : List Id) (a b : TextAnswer) where
  one_in : (o : Option Id) → IsExportedIn s h id have o a → IsExportedIn s h id have o b → a ≡ b
  one_in (Some unknown) x y = x ∙ sym y
  one_in None x y =
      let same : x.1.revisions ≡ y.1.revisions = one_answer h (AncestryDifference id have) x.1.revisions y.1.revisions x.1.asked y.1.asked in
      let packets : x.0 ≡ y.0 = all_one s x.1.revisions [] x.1.files y.1.files x.0 y.0 x.1.sent (subst (λ ids. AreSent s [] ids y.0 y.1.files) (sym same) y.1.sent) in
      x.2 ∙ ap (λ (ps : List Packet). Ok (packets_text ps)) packets ∙ sym y.2

  pub one_export : IsExported s h id have a → IsExported s h id have b → a ≡ b
  one_export x y = one_in (first_unknown h (id ∷ have)) x y

-- one more revision behind others
pub sent_more : (s : State) (ids before mid : List Id) (id : Id) (files : List Id) (packets own : List Packet) → AreSent s before ids packets mid → IsSent s mid id files own →
    AreSent s before (ids ++ id ∷ []) (packets ++ own) (mid ++ files)
sent_more s [] before mid id files packets own sent one =
    (files, own, [], subst (λ m. IsSent s m id files own) sent.1 one, (refl, ap (λ m. m ++ files) sent.1), ap (λ ps. ps ++ own) sent.0 ∙ sym (append-nil own))
sent_more s (first ∷ ids) before mid id files packets own sent one =
    (sent.0, sent.1, sent.2 ++ own, sent.3, sent_more s ids (before ++ sent.0) mid id files sent.2 own sent.4 one, ap (λ ps. ps ++ own) sent.5 ∙ append_assoc sent.1 sent.2 own)

module _ (f : List ℕ → List ℕ) (s : State) (h : List Revision) (is : IsHistory f s.files s.log h) (lists : (id : Id) → (certs : List Certificate) × AreCertsOf s id certs) where
  some_sent : (id : Id) → IsHeld h id → (before : List Id) → (files : List Id) × (own : List Packet) × IsSent s before id files own
  some_sent id held before =
      let text = has_text f s.files s.log h is id held in
      let read = text_spells f s.files s.log h is id.0 text.0 text.1 in
      let certs = lists id in
      let contents = new_contents read.0.edges in (
        new_to before contents,
        packets_with s (new_to before contents) id text.0 certs.0,
        record {
          text = text.0;
          contents = contents;
          brings = record { held = text.1; read = read.0; spells = read.1; is = refl };
          new = refl;
          certs = certs.0;
          said = certs.1;
          are = refl;
        },
      )

  all_some : (ids : List Id) → ((x : Id) → Contains ids x → IsHeld h x) → (before : List Id) → (packets : List Packet) × (after : List Id) × AreSent s before ids packets after
  all_some [] held before = ([], before, (refl, refl))
  all_some (id ∷ ids) held before =
      let one = some_sent id (held id (contains_head id ids)) before in
      let more = all_some ids (λ x c. held x (contains_later id ids c)) (before ++ one.0) in
      (one.1 ++ more.0, more.1, (one.0, one.1, more.0, one.2, more.2, refl))

  above_held : (x r : Id) → IsAbove h x r → IsHeld h x
  above_held x r up = (up.0, up.2)

  some_in : (id : Id) (have : List Id) (o : Option Id) → first_unknown h (id ∷ have) ≡ o → (answer : TextAnswer) × IsExportedIn s h id have o answer
  some_in id have (Some unknown) e = (Err (UnknownRevision unknown), refl)
  some_in id have None e =
      let ids = some_answer h (history_is_grown f s.files s.log h is) (AncestryDifference id have) e in
      let all = all_some ids.0 (λ x c. above_held x id ((ids.1.exact x).0 c).0) [] in
      (Ok (packets_text all.0), (all.0, record { revisions = ids.0; asked = ids.1; files = all.1; sent = all.2 }, refl))

  pub some_export : (id : Id) (have : List Id) → (answer : TextAnswer) × IsExported s h id have answer
  some_export id have = some_in id have (first_unknown h (id ∷ have)) refl
