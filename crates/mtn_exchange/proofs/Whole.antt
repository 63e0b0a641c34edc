-- An export is read, whole.
use Rattle.std.specs.Prelude.{Contains, fold}
use Rattle.std.proofs.Common.{◌≡◌, ◌≤◌, ℕ, List, [], ◌∷◌, length, Option, None, sym, subst, inr, arith}
use Rattle.mtn_answers.specs.Queries.{IsAbove, IsAsked}
use Rattle.mtn_answers.specs.declared.query.Query.TheVariants.{AncestryDifference}
use Rattle.mtn_base.specs.Hex.{id_of}
use Rattle.mtn_base.specs.declared.id.Id.{Id}
use Rattle.mtn_base.specs.declared.refusal.Cause.{Cause}
use Rattle.mtn_exports.specs.Exports.{IsExport}
use Rattle.mtn_history_laws.specs.History.{Revision}
use Rattle.mtn_imports.specs.Imports.{Matched, ReadsFrom}
use Rattle.mtn_model.specs.State.{Logged, State}
use Rattle.mtn_packets.specs.declared.packet.Packet.{Packet}
use Rattle.mtn_replay.specs.Lawful.{IsHistory, IsLawful}
use Rattle.mtn_exchange.specs.Exchange.{HasNoOther, HasRoom, HoldsBytes, HoldsWith, IsTaken, MakesIds, joined_with, new_in}
use Rattle.mtn_exchange.proofs.Apart.{all_apart}
use Rattle.mtn_exchange.proofs.Counting.{counts}
use Rattle.mtn_exchange.proofs.Input.{all_matched, read_back}
use Rattle.mtn_exchange.proofs.Joining.{after, joins}
use Rattle.mtn_exchange.proofs.Reading.{ReadsTo}
use Rattle.mtn_exchange.proofs.Sending.{all_go, start, AreLeft}
use Rattle.mtn_exchange.proofs.Texts.{logged, text_from, text_named, text_of}

abbrev Wanted : List Revision → Id → List Id → Id → Type 0
Wanted h r have x = (o : Id) × Contains (r ∷ have) o × IsAbove h x o

module _ (f : List ℕ → List ℕ) (s t : State) (h : List Revision) (ls : IsLawful f s) (is : IsHistory f s.files s.log h) (lt : IsLawful f t) (r : Id) (have : List Id) where
  pub export_is_read : (packets : List Packet) → MakesIds f → HoldsBytes s → IsExport s h r have packets → HoldsWith s h t have → HasNoOther t packets → HasRoom t packets →
      IsTaken f s h t r have packets
  export_is_read packets ids bytes export holds other room =
      let asked = export.asked in
      let apart = all_apart s h export.revisions [] export.files packets export.sent asked.ascending in
      let one : fold after t packets ≡ joined_with t packets = joins packets t apart in
      let left : AreLeft h (IsAsked h (AncestryDifference r have)) 0 export.revisions = record {
        ascending = asked.ascending;
        asked = λ x c. (asked.exact x).0 c;
        all = λ x p a at le. (asked.exact x).1 a;
        late = λ x p c at. omega arith;
      } in
      let goes = all_go f s t h ls is lt r have export.revisions [] export.files 0 t packets export.sent (start f s t h ls is lt r have holds) left other (subst (λ (v : State). length v.log ≤ 2147483648) (sym one) room) in
      let reads : ReadsFrom f 1 t packets None (joined_with t packets) (new_in t packets) =
      subst (λ new. ReadsFrom f 1 t packets None (joined_with t packets) new) (counts packets t apart) (subst (ReadsTo f t packets) one goes.1 1) in
      let matched = all_matched f s h ls is (text_named f s.files s.log h is) r have packets export 1 in
      let law : IsLawful f (joined_with t packets) = subst (IsLawful f) one goes.0.0 in
      let there : (l : Logged) → Contains s.log l → Wanted h r have (id_of l.id) → Contains (joined_with t packets).log l =
      subst (λ (v : State). (l : Logged) → Contains s.log l → Wanted h r have (id_of l.id) → Contains v.log l) one goes.0.1 in
      record {
        read = inr (record {
          packets = packets;
          spelled = read_back f s h ls is (text_named f s.files s.log h is) r have packets export ids bytes;
          imported = subst (λ (o : Option Cause). Matched o (λ refusal u more. ReadsFrom f 1 t packets refusal u more) None (joined_with t packets) (new_in t packets)) (sym matched) reads;
        });
        lawful = law;
        holds = λ o x text c up under.
            text_of f (joined_with t packets).files (joined_with t packets).log law.history law.log (logged x.0 text) (there (logged x.0 text) (text_from s.log x.0 text under) (o, c, up));
      }
