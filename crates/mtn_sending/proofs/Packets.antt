-- The printed text of packets, one after the other.
use Rattle.std.specs.Prelude.{unwrap_or}
use Rattle.std.specs.FinMap.{get}
use Rattle.std.proofs.Common.{◌≡◌, ◌+◌, ◌<◌, ◌≤◌, ℕ, List, [], ◌∷◌, ◌++◌, Some, get_or, length, map, take, sym, ap, ◌∙◌}
use Rattle.std.proofs.lemmas.List.{append-nil, append_assoc, map-append, take_all, take_more}
use Rattle.std.proofs.lemmas.List.Concat.{flat_map-append}
use Rattle.mtn_base.specs.declared.id.Id.{Id}
use Rattle.mtn_exports.specs.Exports.{file_packet, packets_text}
use Rattle.mtn_model.specs.State.{State}
use Rattle.mtn_packets.specs.Printed.{printed}
use Rattle.mtn_packets.specs.declared.packet.Packet.{Packet}
use Rattle.mtn_packets.specs.declared.packet.Packet.TheVariants as packet

-- the packet of a file that is held
pub file_written : (s : State) (id : Id) (old new bytes read held : List ℕ) → new ≡ old ++ printed (packet.File id bytes) → bytes ≡ read → held ≡ read → get s.files id.0 ≡ Some held → new ≡ old ++ printed (file_packet s id)
file_written s id old new bytes read held written is same at = written ∙ ap (λ b. old ++ printed (packet.File id b)) (is ∙ sym same ∙ sym (ap (λ o. unwrap_or o []) at))

module _ {X : Type 0} (p : X → Packet) (xs : List X) where
  text_more : (i : ℕ) (x : X) → i < length xs → x ≡ get_or xs i x → packets_text (map p (take (i + 1) xs)) ≡ packets_text (map p (take i xs)) ++ printed (p x)
  text_more i x lt is =
      ap (λ l. packets_text (map p l)) (take_more xs i x lt ∙ ap (λ y. take i xs ++ y ∷ []) (sym is))
      ∙ ap packets_text (map-append p (take i xs) (x ∷ []))
      ∙ flat_map-append printed (map p (take i xs)) (p x ∷ [])
      ∙ ap (λ l. packets_text (map p (take i xs)) ++ l) (append-nil (printed (p x)))

  pub packets_more : (i : ℕ) (x : X) (old mid new : List ℕ) → i < length xs → x ≡ get_or xs i x → mid ≡ old ++ packets_text (map p (take i xs)) → new ≡ mid ++ printed (p x) → new ≡ old ++ packets_text (map p (take (i + 1) xs))
  packets_more i x old mid new lt is so_far written =
      written ∙ ap (λ l. l ++ printed (p x)) so_far ∙ append_assoc old (packets_text (map p (take i xs))) (printed (p x)) ∙ ap (λ l. old ++ l) (sym (text_more i x lt is))

  pub packets_all : (i : ℕ) (old new : List ℕ) → length xs ≤ i → new ≡ old ++ packets_text (map p (take i xs)) → new ≡ old ++ packets_text (map p xs)
  packets_all i old new le so_far = so_far ∙ ap (λ l. old ++ packets_text (map p l)) (take_all i xs le)
