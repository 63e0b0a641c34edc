-- Changes whose ranks do not fall, and which are apart.
use Rattle.std.proofs.Common.{◌≡◌, ℕ, ◌+◌, ◌<◌, ◌≤◌, Bool, true, false, List, [], ◌∷◌, ◌++◌, length, get_or, take, map, Option, Some, None, IfSome, refl, sym, ap, subst, ◌∙◌, arith}
use Rattle.std.specs.Prelude.{nat_lt}
use Rattle.std.proofs.lemmas.Bool.Decides.{nat_tests}
use Rattle.std.proofs.lemmas.List.{get_or_append_left, take-append-le, take_more, map-append, length-append}
use Rattle.std.proofs.Math.Seq.{take-append_seam, get_or-append_seam}
use Rattle.mtn_base.specs.declared.id.Id.{Id}
use Rattle.mtn_basic_io.specs.Spelling.{LineText}
use Rattle.mtn_changes.specs.declared.change.Change.{Change}
use Rattle.mtn_changes.specs.Changes.{IsChange, rank}
use Rattle.mtn_changes.specs.Stanzas.{stanza_of}
use Rattle.mtn_changes.specs.Targets.{AreApart}
use Rattle.mtn_changes.specs.Lists.{last_rank, StandsBehind}
use Rattle.mtn_changes.specs.ChangesText.{AreChanges}
use Rattle.mtn_changes.specs.Runs.{AreRising, EndsRun, IsRun}
use Rattle.mtn_changes.proofs.Sorted.{fresh}

abbrev Rises : List Change → Change → Type 0
Rises before c = IsChange c × (last_rank before ≤ rank c)

-- what holds of each change behind those before it holds with one change more
each_more : (P : List Change → Change → Type 0) (cs : List Change) (c : Change) → ((k : ℕ) (d : Change) → k < length cs → P (take k cs) (get_or cs k d)) → P cs c → (k : ℕ) (d : Change) → k < length (cs ++ c ∷ [])
    → P (take k (cs ++ c ∷ [])) (get_or (cs ++ c ∷ []) k d)
each_more P cs c each is k d lt = by (nat_lt k (length cs)) refl where
  by : (b : Bool) → nat_lt k (length cs) ≡ b → P (take k (cs ++ c ∷ [])) (get_or (cs ++ c ∷ []) k d)
  by true e =
      let low : k < length cs = grind (arith, nat_tests) in
      let front : take k (cs ++ c ∷ []) ≡ take k cs = take-append-le k cs (c ∷ []) (omega arith) in
      let here : get_or (cs ++ c ∷ []) k d ≡ get_or cs k d = get_or_append_left cs (c ∷ []) d k low in
      rw (front, here) (each k d low)
  by false e =
      let high : length cs ≤ k = grind (arith, nat_tests) in
      let last : k ≡ length cs = omega (arith, lt, length-append cs (c ∷ [])) in
      let front : take (length cs) (cs ++ c ∷ []) ≡ cs = take-append_seam cs (c ∷ []) in
      let here : get_or (cs ++ c ∷ []) (length cs) d ≡ c = get_or-append_seam cs c [] d in
      rw (last, front, here) is

pub rising_more : (cs : List Change) (c : Change) → AreRising cs → IsChange c → last_rank cs ≤ rank c → AreRising (cs ++ c ∷ [])
rising_more cs c rising is up = each_more Rises cs c rising (is, up)

pub lawful_more : (cs : List Change) (c : Change) → AreChanges cs → StandsBehind cs c → AreChanges (cs ++ c ∷ [])
lawful_more cs c lawful stands = each_more StandsBehind cs c lawful stands

pub rising_lawful : (cs : List Change) → AreRising cs → AreApart cs → AreChanges cs
rising_lawful cs rising apart k d lt = record { lawful = (rising k d lt).0; ordered = (rising k d lt).1; fresh = fresh cs apart k d lt }

pub rising_run : (ss : List (List LineText)) (cs : List Change) (next : Option (Option Id)) (rs : List Change) (rn : Option (Option Id)) → AreRising cs → EndsRun ss cs next → AreApart cs → rs ≡ cs → rn ≡ next → IsRun ss rs rn
rising_run ss cs next rs rn rising ends apart same follows =
    let run : IsRun ss cs next = record { lawful = rising_lawful cs rising apart; ends = ends } in
    subst (λ (o : Option (Option Id)). IsRun ss rs o) (sym follows) (subst (λ (xs : List Change). IsRun ss xs next) (sym same) run)

-- one stanza more was read
pub read_more : (ss : List (List LineText)) (at : ℕ) (s : List LineText) (cs : List Change) (c : Change) (new : List Change) → at < length ss → s ≡ get_or ss at s → take at ss ≡ map stanza_of cs → s ≡ stanza_of c → new ≡ cs ++ c ∷ []
    → take (at + 1) ss ≡ map stanza_of new
read_more ss at s cs c new lt is read spelled added =
    take_more ss at s lt
    ∙ ap (λ (t : List LineText). take at ss ++ t ∷ []) (sym is ∙ spelled)
    ∙ ap (λ (us : List (List LineText)). us ++ stanza_of c ∷ []) read
    ∙ sym (map-append stanza_of cs (c ∷ []))
    ∙ ap (map stanza_of) (sym added)

-- what holds of a value that may be wanting
pub if_some : {X : Type 0} (o : Option X) (P Q : X → Type 0) → ((x : X) → P x → Q x) → IfSome o P → IfSome o Q
if_some None P Q f p = tt
if_some (Some x) P Q f p = f x p
