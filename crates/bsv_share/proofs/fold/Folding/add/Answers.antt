use Rattle.std.proofs.Common.{◌≡◌, ◌∙◌, Bool, true, false, not, refl, sym, ap, subst, List}
use Rattle.std.specs.List.{list_any}
use Rattle.bsv_net.specs.declared.node.NetNode.{NetNode}
use Rattle.bsv_share.specs.declared.fold.Folding.{Folding}
use Rattle.bsv_share.specs.declared.key.Key.{Key}
use Rattle.bsv_share.specs.Keys.{key_of}
use Rattle.indexmap.specs.IndexSet.{insert_key}
use Rattle.bsv_share.specs.Folding as spec
use Rattle.bsv_share.proofs.Keyed.{Stored, added_known, added_new, key_eq}
use Rattle.bsv_share.proofs.fold.Folding.add.Goals as goal
use Rattle.bsv_share.proofs.fold.Folding.add.Goals.{then-is_new+in_ok-push, else-is_new}

known : (b c : Bool) → c ≡ not b → c ≡ false → b ≡ true
known true c e f = refl
known false c e f = absurd (let n : ⊥ = cc in n)

absent : (b c : Bool) → c ≡ not b → c ≡ true → b ≡ false
absent false c e f = refl
absent true c e f = absurd (let n : ⊥ = cc in n)

pub returns-in-Ok-clause-added : goal.returns-in-Ok-clause-added
returns-in-Ok-clause-added c =
    let xs : List NetNode = c.args.self.now.nodes in
    let x : NetNode = c.args.node.now in
    let keys : List Key = c.args.self.now.keys.keys in
    let more : List Key = c.insert_full.new.self.keys in
    let i = c.in_ok-place.place in
    let key : c.key_of-key.result ≡ key_of x = c.key_of-key.ensures in
    let found = c.in_ok-place.ensures in
    let stored : Stored more i (key_of x) = subst (Stored more i) key found.stored in
    let inserted : more ≡ insert_key key_eq keys (key_of x) = found.keys ∙ ap (insert_key key_eq keys) key in
    let there : Bool = list_any (key_eq (key_of x)) keys in
    let is : c.in_ok-place.is_new ≡ not there = found.added ∙ ap (λ (k : Key). not (list_any (key_eq k) keys)) key in
    let same : c.in-Ok.place ≡ i = c.in-Ok.ensures.1 in
    subst (λ p. spec.Added xs x c.if-is_new.self.nodes p) (sym same)
    (elim c.if-is_new.branch [
      | then-is_new+in_ok-push w ↦
          subst (λ (f : Folding). spec.Added xs x f.nodes i) (sym w.self-is)
          (added_new xs x keys more w.push.new.self i c.requires (absent there c.in_ok-place.is_new is w.if-is_new.true) inserted stored w.in_ok-push.ensures.ok)
      | else-is_new w ↦
          subst (λ (f : Folding). spec.Added xs x f.nodes i) (sym w.self-is)
          (added_known xs x keys more i c.requires (known there c.in_ok-place.is_new is w.if-is_new.false) inserted stored)
    ])
