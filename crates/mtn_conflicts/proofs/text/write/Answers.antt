-- What was written is appended at once.
use Rattle.std.proofs.Common.{◌≡◌, ℕ, List, ◌++◌, ◌∷◌, append_assoc, ◌∙◌, ap}
use Rattle.mtn_basic_io.specs.Spelling.{stanza_text}
use Rattle.mtn_conflicts.specs.ConflictText.{list_stanzas, sides_stanza, version_stanza}
use Rattle.mtn_conflicts.specs.Printing.{behind}
use Rattle.mtn_conflicts.proofs.Written.{spelled}
use Rattle.mtn_conflicts.proofs.text.write.Goals as goal

pub returns-clause-ok : goal.returns-clause-ok
returns-clause-ok c =
    let head : List ℕ = stanza_text version_stanza in
    let sides : List ℕ = stanza_text (sides_stanza c.args.left c.args.right) in
    let lists : List ℕ = behind (list_stanzas c.args.conflicts.now) in
    let begun : c.write_head.new.out.items ≡ head ++ 10 ∷ sides = c.in_ok-write_head.ensures ∙ ap (λ (l : List ℕ). l ++ (head ++ 10 ∷ sides)) c.new-text.ensures.items in
    let written : c.write_lists.new.out.items ≡ head ++ (10 ∷ (sides ++ lists)) = c.in_ok-write_lists.ensures ∙ ap (λ (l : List ℕ). l ++ lists) begun ∙ append_assoc head (10 ∷ sides) lists in
    c.in_ok-extend_from_slice.ensures.items
    ∙ ap (λ (l : List ℕ). c.args.out.now.items ++ l) (c.deref.ensures.value ∙ written ∙ ap (λ (l : List ℕ). head ++ (10 ∷ l)) (spelled (sides_stanza c.args.left c.args.right) (list_stanzas c.args.conflicts.now)))
