-- A declared method by its place.
use Rattle.std.proofs.Common.{ℕ, suc, ◌≡◌, ◌+◌, Bool, true, false, cond, List, [], ◌∷◌, map, slice_get, Option, Some, None, refl, sym, ap, ◌∙◌, arith}
use Rattle.std.specs.Str.{bytes_eq}
use Rattle.bsv_types.specs.declared.definitions.MethodHeader.{MethodHeader}
use Rattle.bsv_types.specs.Methods.{Signature, header_signature}
use Rattle.bsv_types.specs.Named.{place_from, place_of}
use Rattle.bsv_context.specs.Methods.{method_from}
use Rattle.bsv_context.specs.Seen.{header_at}

-- the method whose place this is
record Placed (number k : ℕ) (hs : List MethodHeader) (found : Option (ℕ × Signature)) : Type 0 where
  steps : ℕ
  header : MethodHeader
  far : k ≡ number + steps
  there : slice_get hs steps ≡ Some header
  is : found ≡ Some (k, header_signature header)

placed_from : (number k : ℕ) (name : List ℕ) (hs : List MethodHeader) → place_from number name hs ≡ Some k → Placed number k hs (method_from number name (map header_signature hs))
placed_from number k name [] e = absurd cc
placed_from number k name (h ∷ hs) e = by (placed_from (number + 1) k name hs) (bytes_eq name h.name) e where
  by : (place_from (number + 1) name hs ≡ Some k → Placed (number + 1) k hs (method_from (number + 1) name (map header_signature hs))) →
      (b : Bool) → cond b (Some number) (place_from (number + 1) name hs) ≡ Some k →
      Placed number k (h ∷ hs) (cond b (Some (number, header_signature h)) (method_from (number + 1) name (map header_signature hs)))
  by later true e =
      let same : number ≡ k = cc in
      let first : number ≡ number + 0 = omega arith in
      record { steps = 0; header = h; far = sym same ∙ first; there = refl; is = ap (λ n. Some (n, header_signature h)) same }
  by later false e =
      let more = later e in
      let next : number + 1 + more.steps ≡ number + suc more.steps = omega arith in
      record { steps = suc more.steps; header = more.header; far = more.far ∙ next; there = more.there; is = more.is }

no_place : (number : ℕ) (name : List ℕ) (hs : List MethodHeader) → place_from number name hs ≡ None → method_from number name (map header_signature hs) ≡ None
no_place number name [] e = refl
no_place number name (h ∷ hs) e = by (no_place (number + 1) name hs) (bytes_eq name h.name) e where
  by : (place_from (number + 1) name hs ≡ None → method_from (number + 1) name (map header_signature hs) ≡ None) →
      (b : Bool) → cond b (Some number) (place_from (number + 1) name hs) ≡ None →
      cond b (Some (number, header_signature h)) (method_from (number + 1) name (map header_signature hs)) ≡ None
  by later true e = absurd cc
  by later false e = later e

named_there : (name : List ℕ) (hs : List MethodHeader) (k : ℕ) (h : MethodHeader) → place_of name hs ≡ Some k → slice_get hs k ≡ Some h →
    method_from 0 name (map header_signature hs) ≡ Some (k, header_signature h)
named_there name hs k h e there =
    let p = placed_from 0 k name hs e in
    let zero : 0 + p.steps ≡ p.steps = omega arith in
    let same : k ≡ p.steps = p.far ∙ zero in
    let one : Some p.header ≡ Some h = sym p.there ∙ sym (ap (slice_get hs) same) ∙ there in
    let header : p.header ≡ h = cc in
    p.is ∙ ap (λ (x : MethodHeader). Some (k, header_signature x)) header

-- no place is after the end
named_after : (name : List ℕ) (hs : List MethodHeader) (k : ℕ) → place_of name hs ≡ Some k → slice_get hs k ≡ None →
    method_from 0 name (map header_signature hs) ≡ None
named_after name hs k e there =
    let p = placed_from 0 k name hs e in
    let zero : 0 + p.steps ≡ p.steps = omega arith in
    let same : k ≡ p.steps = p.far ∙ zero in
    let none : Some p.header ≡ None = sym p.there ∙ sym (ap (slice_get hs) same) ∙ there in
    absurd cc

-- the method at the place of a name
abbrev pub at_place : List MethodHeader → Option ℕ → Option (ℕ × Signature)
at_place hs None = None
at_place hs (Some k) = header_at k (slice_get hs k)

signed_is : (name : List ℕ) (hs : List MethodHeader) (k : ℕ) (o : Option MethodHeader) → place_of name hs ≡ Some k → slice_get hs k ≡ o →
    method_from 0 name (map header_signature hs) ≡ header_at k o
signed_is name hs k None e there = named_after name hs k e there
signed_is name hs k (Some h) e there = named_there name hs k h e there

at_place_is : (name : List ℕ) (hs : List MethodHeader) (o : Option ℕ) → place_of name hs ≡ o → method_from 0 name (map header_signature hs) ≡ at_place hs o
at_place_is name hs None e = no_place 0 name hs e
at_place_is name hs (Some k) e = signed_is name hs k (slice_get hs k) e refl

pub by_place : (name : List ℕ) (hs : List MethodHeader) → method_from 0 name (map header_signature hs) ≡ at_place hs (place_of name hs)
by_place name hs = at_place_is name hs (place_of name hs) refl

pub ruleset placed = (by_place)
