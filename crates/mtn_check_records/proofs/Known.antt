-- Entries whose nodes have their numbers already are those that are due.
use Rattle.std.specs.Prelude.{map, not, is_some, All, Contains, IsSome}
use Rattle.std.specs.List.{position_from}
use Rattle.std.proofs.Common.{◌≡◌, ℕ, cond, List, [], ◌∷◌, length, Some, refl, sym, ◌∙◌, ap, subst, arith}
use Rattle.std.proofs.lemmas.List.Elements.{All-contains, Contains-append_right}
use Rattle.mtn_base.proofs.Orders.{paths_total}
use Rattle.mtn_base.proofs.Sorting.{of_ordered}
use Rattle.mtn_base.specs.Names.{path_cmp}
use Rattle.mtn_marking.specs.Marking.{MarkedTree}
use Rattle.mtn_records.specs.declared.entry.NumberedEntry.{NumberedEntry}
use Rattle.mtn_records.specs.declared.record.RosterRecord.{RosterRecord}
use Rattle.mtn_records.specs.declared.record.RosterRecord.TheVariants.{Whole, Delta}
use Rattle.mtn_roster.specs.Tree.{path_of}
use Rattle.mtn_roster.specs.Walk.{by_path}
use Rattle.mtn_roster.specs.declared.entry.Entry.{Entry}
use Rattle.mtn_roster_deltas.proofs.Ascending.{cut_of, place_by}
use Rattle.mtn_roster_deltas.proofs.Assigning.{each_by}
use Rattle.mtn_roster_deltas.proofs.Known.{entry_there, known_is, there_spelled}
use Rattle.mtn_roster_deltas.proofs.Places.{is_name}
use Rattle.mtn_roster_deltas.specs.Chain.{Entries}
use Rattle.mtn_roster_deltas.specs.Numbering.{all_of, fresh, number_among, number_in, or_next, unnumbered, AreKnown, IsNumbering}
use Rattle.mtn_roster_deltas.specs.Spelled.{Spells}
use Rattle.mtn_check_pieces.specs.Verdict.{IsWholeOf}
use Rattle.mtn_check_records.specs.Due.{HasEntries, IsKnownIn, IsNumberedBy, KeepsNumbers}

all_numbered : (es : Entries) (ns : List Entry) → ((e : Entry) → Contains ns e → IsSome (number_among es e.name)) → unnumbered es (map (λ (e : Entry). e.name) ns) ≡ []
all_numbered es [] each = refl
all_numbered es (n ∷ ns) each =
    let rest = all_numbered es ns (λ e c. each e (Contains-append_right (n ∷ []) ns e c)) in
    (λ i. cond (not (each n (0, omega arith, refl) i)) (n.name ∷ unnumbered es (map (λ (e : Entry). e.name) ns)) (unnumbered es (map (λ (e : Entry). e.name) ns))) ∙ rest

module _ (known : List Entries) (below es : Entries) (next : ℕ) (t : MarkedTree) (there : Contains known below) (spells : Spells es t) (each : All (IsKnownIn below) es) where
  number_has : AreKnown known next → (e : NumberedEntry) → Contains es e → number_among (all_of known) e.node ≡ Some e.number
  number_has are e c =
      let k = All-contains (IsKnownIn below) es e each c in
      known_is known next below k.0 e.node are there k.1 k.2 ∙ ap Some k.3

  numbering : AreKnown known next → IsNumbering known next t es
  numbering are = record {
    spells = spells;
    numbers = each_by (λ (e : NumberedEntry). number_in known next t.tree e.node ≡ Some e.number) es (λ e c.
        ap (λ o. or_next next o (position_from (is_name e.node) 0 (fresh known t.tree))) (number_has are e c));
  }

  none_fresh : AreKnown known next → fresh known t.tree ≡ []
  none_fresh are = all_numbered (all_of known) (by_path t.tree) (λ e c.
      let s = there_spelled es t spells e.name (entry_there t.tree e (place_by t.tree e (of_ordered path_cmp (path_of t.tree) paths_total t.tree e (cut_of (by_path t.tree) e c)))) in
      ap is_some (ap (number_among (all_of known)) (sym s.2) ∙ number_has are s.0 s.1))

  pub known_numbered : IsNumberedBy t known next es next
  known_numbered = record {
    ascending = spells.ascending;
    numbers = numbering;
    next_free = λ are. let none = ap length (none_fresh are) in omega (arith, none);
  }

pub due_known : (r : RosterRecord) (known : List Entries) (t : MarkedTree) (next : ℕ) (es : Entries) → IsWholeOf r t → HasEntries r es → KeepsNumbers r known → IsNumberedBy t known next es next
due_known (Whole entries) [] t next es spells has keeps = absurd keeps
due_known (Whole entries) (below ∷ known) t next es spells has keeps =
    subst (λ xs. IsNumberedBy t (below ∷ known) next xs next) (let same : Whole entries ≡ Whole es = has in cc)
    (known_numbered (below ∷ known) below entries next t (0, omega arith, refl) spells keeps)
due_known (Delta base depth gone changed) known t next es spells has keeps = absurd spells
