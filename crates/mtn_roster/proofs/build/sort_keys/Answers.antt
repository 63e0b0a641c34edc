-- The attributes were those of the entry.
use Rattle.std.proofs.Common.{◌∙◌, subst, List}
use Rattle.std.specs.Prelude.{◌↔◌, IsTrue}
use Rattle.std.specs.List.{IsDistinct}
use Rattle.mtn_base.specs.Names.{same_bytes}
use Rattle.mtn_roster.specs.declared.entry.Attr.{Attr}
use Rattle.mtn_roster.proofs.build.sort_keys.Goals as goal

pub returns-clause-apart : goal.returns-clause-apart
returns-clause-apart c =
    subst (λ (xs : List Attr). IsTrue c.sort_attrs-apart.result ↔ IsDistinct (λ (a : Attr) (b : Attr). same_bytes a.key b.key) xs)
    (c.into_vec-attrs.ensures ∙ c.replace.ensures.value) c.sort_attrs-apart.ensures.apart
