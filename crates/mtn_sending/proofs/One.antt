-- What was written of a revision, and of revisions one after the other.
use Rattle.std.specs.BTreeSet.{BTreeSet}
use Rattle.std.specs.Prelude.{Contains}
use Rattle.std.proofs.Common.{◌≡◌, ◌+◌, ◌<◌, ◌≤◌, ℕ, List, [], ◌∷◌, ◌++◌, Option, Some, Result, get_or, length, map, take, refl, sym, ap, ◌∙◌, subst}
use Rattle.std.proofs.lemmas.List.{append-nil, append_assoc, take_all, take_more}
use Rattle.std.proofs.lemmas.List.Concat.{flat_map-append}
use Rattle.mtn_base.specs.declared.id.Id.{Id}
use Rattle.mtn_changes.specs.declared.change.Revision.{Revision as Spelled}
use Rattle.mtn_exports.specs.Exports.{cert_packet, file_packet, new_to, packets_text, packets_with}
use Rattle.mtn_exports.proofs.Contents.{contents_held, has_text}
use Rattle.mtn_exports.proofs.Sending.{sent_more}
use Rattle.mtn_exports.proofs.Writing.{new_contained}
use Rattle.mtn_answers.specs.Queries.{IsHeld}
use Rattle.mtn_history.specs.Stands.{IsFounded}
use Rattle.mtn_history.specs.declared.errors.StoreError.{StoreError}
use Rattle.mtn_history.specs.declared.pending.Pending.{Pending}
use Rattle.mtn_history_laws.specs.History.{Revision}
use Rattle.mtn_model.specs.Table.{Contents}
use Rattle.mtn_model.specs.State.{State}
use Rattle.mtn_packets.specs.Printed.{printed}
use Rattle.mtn_packets.specs.declared.packet.Packet.TheVariants as packet
use Rattle.mtn_replay.specs.Lawful.{IsHistory, Spells}
use Rattle.mtn_replay.specs.Making.{new_contents}
use Rattle.mtn_replay.specs.Texts.{text_under}
use Rattle.mtn_sending.specs.Sending.{Adds, AreHeld, Gives, IsSetOf, WritesAll, WritesCerts, WritesOne, WritesSoFar}

-- the new files of a revision are held
pub files_held : (f : List ℕ → List ℕ) (s : State) (h : List Revision) → IsHistory f s.files s.log h → (id : Id) (text : List ℕ) (r : Spelled) → text_under s.log id.0 ≡ Some text → Spells text r → (before files : List Id) →
    files ≡ new_to before (new_contents r.edges) → AreHeld s files
files_held f s h is id text r under spells before files new x c = contents_held f s.files s.log h is id.0 text r under spells x (new_contained before (new_contents r.edges) x (subst (λ ids. Contains ids x) new c))

-- files, the revision and its certificates, one behind the other
pub one_written : (s : State) (before : List Id) (id : Id) (sent now : BTreeSet Id) (files : List Id) (text bytes : List ℕ) (r : Spelled) (old mid next last : List ℕ) →
    text_under s.log id.0 ≡ Some text → Spells text r → bytes ≡ text → IsSetOf sent before → Adds sent now [] files (new_contents r.edges) →
    mid ≡ old ++ packets_text (map (file_packet s) files) → next ≡ mid ++ printed (packet.Revision id bytes) → WritesCerts s id next last → WritesOne s before id now old last
one_written s before id sent now files text bytes r old mid next last under spells same set adds filed put said =
    let a = adds before (subst (IsSetOf sent) (sym (append-nil before)) set) in
    let new : files ≡ new_to before (new_contents r.edges) = a.1 ∙ ap (λ l. new_to l (new_contents r.edges)) (append-nil before) in
    let first = packets_text (map (file_packet s) files) in
    let own = printed (packet.Revision id text) in
    let certs = packets_text (map cert_packet said.0) in (
      files,
      packets_with s files id text said.0,
      record { text = text; contents = new_contents r.edges; brings = record { held = under; read = r; spells = spells; is = refl }; new = new; certs = said.0; said = said.1; are = refl },
      a.0,
      said.2
          ∙ ap (λ l. l ++ certs) (put ∙ (λ i. filed i ++ printed (packet.Revision id (same i))))
          ∙ append_assoc (old ++ first) own certs
          ∙ append_assoc old first (own ++ certs)
          ∙ ap (λ l. old ++ l) (sym (flat_map-append printed (map (file_packet s) files) (packet.Revision id text ∷ map cert_packet said.0))),
    )

-- one more revision behind others
pub one_more : (s : State) (ids : List Id) (i : ℕ) (x : Id) (sent now : BTreeSet Id) (old mid new : List ℕ) → i < length ids → x ≡ get_or ids i x → (so_far : WritesSoFar s (take i ids) sent old mid) →
    ((before : List Id) → IsSetOf sent before → WritesOne s before x now mid new) → WritesSoFar s (take (i + 1) ids) now old new
one_more s ids i x sent now old mid new lt is so_far later =
    let one = later so_far.1 so_far.3 in
    let more : take (i + 1) ids ≡ take i ids ++ x ∷ [] = take_more ids i x lt ∙ ap (λ y. take i ids ++ y ∷ []) (sym is) in
    subst (λ l. WritesSoFar s l now old new) (sym more) (
      so_far.0 ++ one.1,
      so_far.1 ++ one.0,
      sent_more s (take i ids) [] so_far.1 x one.0 so_far.0 one.1 so_far.2 one.2,
      one.3,
      one.4 ∙ ap (λ l. l ++ packets_text one.1) so_far.4 ∙ append_assoc old (packets_text so_far.0) (packets_text one.1) ∙ ap (λ l. old ++ l) (sym (flat_map-append printed so_far.0 one.1)),
    )

-- the text that was read of a revision of the history
pub read_under : (f : List ℕ → List ℕ) (told : Option Contents) (p : Pending) (s : State) (d : IsFounded f told p s) (id : Id) → IsHeld d.stands.history id → (bytes : List ℕ) → ((text : List ℕ) → text_under s.log id.0 ≡ Some text → text ≡ bytes) →
    text_under s.log id.0 ≡ Some bytes
read_under f told p s d id held bytes same = let t = has_text f s.files s.log d.stands.history d.stands.spelled id held in t.1 ∙ ap Some (same t.0 t.1)

-- the new files, by what was added
pub new_of : (sent now : BTreeSet Id) (before files contents : List Id) → IsSetOf sent before → Adds sent now [] files contents → files ≡ new_to before contents
new_of sent now before files contents set adds = (adds before (subst (IsSetOf sent) (sym (append-nil before)) set)).1 ∙ ap (λ l. new_to l contents) (append-nil before)

-- what is known of one revision, over the records that are told
abbrev pub FindsOne : {X : Type 0} → Option Contents → Pending → Id → BTreeSet Id → BTreeSet Id → List ℕ → List ℕ → Result X StoreError → Type 0
FindsOne told p id sent now old new r =
    (f : List ℕ → List ℕ) (s : State) (d : IsFounded f told p s) → IsHeld d.stands.history id → (before : List Id) → IsSetOf sent before → Gives r (λ _. WritesOne s before id now old new)

-- all of them
pub all_written : (s : State) (ids : List Id) (i : ℕ) (now : BTreeSet Id) (old new : List ℕ) → length ids ≤ i → WritesSoFar s (take i ids) now old new → WritesAll s ids old new
all_written s ids i now old new le so_far = let all = subst (λ l. WritesSoFar s l now old new) (take_all i ids le) so_far in (all.0, all.1, all.2, all.4)

-- before any nothing was written
pub none_written : (s : State) (now : BTreeSet Id) (old : List ℕ) → IsSetOf now [] → WritesSoFar s [] now old old
none_written s now old set = ([], [], (refl, refl), set, sym (append-nil old))

-- the same of all
abbrev pub FindsAll : {X : Type 0} → Option Contents → Pending → List Id → List ℕ → List ℕ → Result X StoreError → Type 0
FindsAll told p ids old new r = (f : List ℕ → List ℕ) (s : State) (d : IsFounded f told p s) → ((x : Id) → Contains ids x → IsHeld d.stands.history x) → Gives r (λ _. WritesAll s ids old new)
