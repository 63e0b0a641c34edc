-- Lists of changes, and why a stanza may not stand behind one.
use Rattle.std.specs.Prelude.{◌≡◌, ◌⊎◌, ◌<◌, ◌≤◌, ◌++◌, ℕ, Bool, true, false, List, [], ◌∷◌, None}
use Rattle.std.specs.List.{list_any}
use Rattle.std.specs.BTreeSet.{BTreeSet, contains}
use Rattle.std.specs.BTreeMap.{is_at}
use Rattle.mtn_basic_io.specs.Spelling.{LineText}
use Rattle.mtn_changes.specs.declared.change.Change.{Change}
use Rattle.mtn_changes.specs.declared.head.Head.{Head}
use Rattle.mtn_changes.specs.declared.target.Target.{Target}
use Rattle.mtn_changes.specs.declared.order.Fault.{Fault}
use Rattle.mtn_changes.specs.declared.order.Fault.TheVariants.{BadStanza, BadOrder, Repeated, BadEdge, NoMemory}
use Rattle.mtn_changes.specs.Changes.{IsChange, rank}
use Rattle.mtn_changes.specs.Heads.{head_stanza, IsHeadRead}
use Rattle.mtn_changes.specs.Targets.{target_of, target_cmp, is_same_target}
use Rattle.mtn_changes.specs.Stanzas.{stanza_of, IsRead}

-- the rank of the last change, 0 where there is none
abbrev pub last_rank : List Change → ℕ
last_rank [] = 0
last_rank (c ∷ []) = rank c
last_rank (c ∷ d ∷ cs) = last_rank (d ∷ cs)

-- a change of the list changes the same thing
abbrev pub is_taken : List Change → Change → Bool
is_taken cs c = list_any (λ b. is_same_target b c) cs

-- a change may stand behind a list
pub record StandsBehind (before : List Change) (c : Change) : Type 0 where
  pub lawful : IsChange c
  pub ordered : last_rank before ≤ rank c
  pub fresh : is_taken before c ≡ false

-- why a stanza may not: the first of these
abbrev pub IsFault : List Change → List LineText → Fault → Type 0
IsFault before stanza BadStanza = IsRead stanza None × IsHeadRead stanza None
IsFault before stanza BadOrder =
    ((h : Head) × (stanza ≡ head_stanza h)) ⊎ ((c : Change) × IsChange c × (stanza ≡ stanza_of c) × (rank c < last_rank before))
IsFault before stanza Repeated = (c : Change) × IsChange c × (stanza ≡ stanza_of c) × (last_rank before ≤ rank c) × (is_taken before c ≡ true)
IsFault before stanza BadEdge = ⊥
IsFault before stanza NoMemory = Unit {0}

-- the list with the change of the stanza behind it
abbrev pub IsNextChange : List Change → List LineText → List Change → Type 0
IsNextChange before stanza after = (c : Change) × (stanza ≡ stanza_of c) × StandsBehind before c × (after ≡ before ++ c ∷ [])

-- what was read of a list
pub record IsPart (read changes : List Change) (targets : BTreeSet Target) (last : ℕ) : Type 0 where
  pub same : changes ≡ read
  pub rank_is : last ≡ last_rank read
  pub targets_are : (s : Target) → contains target_cmp targets s ≡ list_any (λ c. is_at (target_cmp (target_of c)) s) read
