-- Variables in scope are those of the frame, also where a scope is opened or a variable is defined.
use Rattle.std.proofs.Common.{◌≡◌, ◌∙◌, ℕ, zero, suc, ◌+◌, Bool, true, false, cond, not, List, [], ◌∷◌, ◌++◌, length, Option, Some, None, refl, sym, ap, subst, arith, append_assoc, append-nil}
use Rattle.std.specs.Prelude.{slice_get}
use Rattle.std.specs.Option.{option_or}
use Rattle.std.specs.Str.{bytes_eq}
use Rattle.std.proofs.lemmas.List.{length-append, length-map, map-append}
use Rattle.std.proofs.lemmas.Option.{same_Some}
use Rattle.bsv_scopes.specs.Scopes.{Entries, found, find_in, is_defined, opened, closed, in_scope}
use Rattle.bsv_types.specs.Shapes.{Shapes}
use Rattle.bsv_types.specs.Expressions.{Slot, World, Frame}
use Rattle.bsv_context.specs.Env.{Env, variable_in}
use Rattle.bsv_statements.specs.Bodies.{Scopes, with_variable, with_scopes}
use Rattle.bsv_typing.specs.Laws.{slot_right, SlotsRight, FitsWorld, Fits}
use Rattle.bsv_statements.specs.Laws.{slots_of, frame_of, PlacedFrom, Placed, ScopesFit}

-- ---- items of lists side by side

get_left : (xs ys : Frame) (i : ℕ) (s : Slot) → slice_get xs i ≡ Some s → slice_get (xs ++ ys) i ≡ Some s
get_left [] ys i s e = absurd cc
get_left (x ∷ xs) ys zero s e = e
get_left (x ∷ xs) ys (suc i) s e = get_left xs ys i s e

get_right : (xs ys : Frame) (i j : ℕ) (s : Slot) → j ≡ length xs + i → slice_get ys i ≡ Some s → slice_get (xs ++ ys) j ≡ Some s
get_right [] ys i j s is e = let same : i ≡ j = omega arith in subst (λ k. slice_get ys k ≡ Some s) same e
get_right (x ∷ xs) ys i zero s is e = absurd (omega arith)
get_right (x ∷ xs) ys i (suc j) s is e = get_right xs ys i j s (omega arith) e

slots_more : (shapes : Shapes) (frame : Frame) (s : Slot) → SlotsRight shapes frame → slot_right shapes s ≡ true → SlotsRight shapes (frame ++ s ∷ [])
slots_more shapes [] s right new zero t e = subst (λ u. slot_right shapes u ≡ true) (same_Some s t e) new
slots_more shapes [] s right new (suc level) t e = absurd cc
slots_more shapes (x ∷ xs) s right new zero t e = right 0 t e
slots_more shapes (x ∷ xs) s right new (suc level) t e = slots_more shapes xs s (λ l u is. right (suc l) u is) new level t e

-- ---- variables by their names

pub frame_length : (ss : Scopes) → length (frame_of ss) ≡ in_scope ss
frame_length [] = refl
frame_length (es ∷ outer) = omega (arith, length-append (frame_of outer) (slots_of es), length-map es (λ e. e.1.1), frame_length outer)

found_at : (n : ℕ) (name : List ℕ) (es : Entries (ℕ × Slot)) (v : ℕ × Slot) → PlacedFrom n es → found name es ≡ Some v → (i : ℕ) × (v.0 ≡ n + i) × (slice_get (slots_of es) i ≡ Some v.1)
found_at n name [] v placed e = absurd cc
found_at n name (x ∷ es) v placed e = by (bytes_eq name x.0) (found_at (n + 1) name es v placed.1) e where
  by : (b : Bool) → (found name es ≡ Some v → (i : ℕ) × (v.0 ≡ n + 1 + i) × (slice_get (slots_of es) i ≡ Some v.1)) →
      cond b (Some x.1) (found name es) ≡ Some v → (i : ℕ) × (v.0 ≡ n + i) × (slice_get (slots_of (x ∷ es)) i ≡ Some v.1)
  by true later at =
      let is = same_Some x.1 v at in
      let first : n ≡ n + 0 = omega arith in
      (0, sym (ap (λ (q : ℕ × Slot). q.0) is) ∙ placed.0 ∙ first, ap (λ (q : ℕ × Slot). Some q.1) is)
  by false later at =
      let more = later at in
      let next : n + 1 + more.0 ≡ n + suc more.0 = omega arith in
      (suc more.0, more.1 ∙ next, more.2)

named_at : (ss : Scopes) (name : List ℕ) (v : ℕ × Slot) → Placed ss → find_in name ss ≡ Some v → slice_get (frame_of ss) v.0 ≡ Some v.1
named_at [] name v placed e = absurd cc
named_at (es ∷ outer) name v placed e = by (found name es) refl (named_at outer name v placed.1) e where
  by : (o : Option (ℕ × Slot)) → found name es ≡ o → (find_in name outer ≡ Some v → slice_get (frame_of outer) v.0 ≡ Some v.1) → option_or o (find_in name outer) ≡ Some v → slice_get (frame_of outer ++ slots_of es) v.0 ≡ Some v.1
  by None is later at = get_left (frame_of outer) (slots_of es) v.0 v.1 (later at)
  by (Some u) is later at =
      let h = found_at (in_scope outer) name es v placed.0 (is ∙ at) in
      get_right (frame_of outer) (slots_of es) h.0 v.0 v.1 (h.1 ∙ ap (λ n. n + h.0) (sym (frame_length outer))) h.2

pub scopes_fit : (env : Env) (w : World) (ss : Scopes) → FitsWorld env w → ScopesFit w.shapes ss → Fits (with_scopes env ss) w (frame_of ss)
unfolding variable_in
scopes_fit env w ss fits scopes = record {
  world = record { strict = fits.strict; shapes = fits.shapes; right = fits.right; functions = fits.functions; results = fits.results; labels = fits.labels };
  slots = scopes.slots;
  variables = λ name v e. named_at ss name v scopes.placed e;
}

-- ---- a scope more, a variable more

pub frame_opened : (ss : Scopes) → frame_of (opened ss) ≡ frame_of ss
frame_opened ss = append-nil (frame_of ss)

pub opened_fit : (s : Shapes) (ss : Scopes) → ScopesFit s ss → ScopesFit s (opened ss)
opened_fit s ss fit = record { placed = (tt, fit.placed); slots = subst (SlotsRight s) (sym (frame_opened ss)) fit.slots }

placed_more : (n : ℕ) (es : Entries (ℕ × Slot)) (name : List ℕ) (level : ℕ) (slot : Slot) → PlacedFrom n es → level ≡ length es + n → PlacedFrom n (es ++ (name, (level, slot)) ∷ [])
placed_more n [] name level slot placed is = let same : level ≡ n = omega arith in (same, tt)
placed_more n (e ∷ es) name level slot placed is = (placed.0, placed_more (n + 1) es name level slot placed.1 (omega arith))

-- the scopes have one variable more, in the innermost scope
pub record Defined (s : Shapes) (slot : Slot) (ss next : Scopes) : Type 0 where
  pub fit : ScopesFit s next
  pub frame : frame_of next ≡ frame_of ss ++ slot ∷ []
  pub outer : closed next ≡ closed ss

pub defined_right : (s : Shapes) (name : List ℕ) (slot : Slot) (ss next : Scopes) → ScopesFit s ss → slot_right s slot ≡ true → with_variable name slot ss ≡ Some next → Defined s slot ss next
defined_right s name slot [] next fit right e = absurd cc
defined_right s name slot (es ∷ outer) next fit right e = by (is_defined name es) e where
  level : ℕ
  level = in_scope (es ∷ outer)

  whole : Scopes
  whole = (es ++ (name, (level, slot)) ∷ []) ∷ outer

  grown : frame_of whole ≡ frame_of (es ∷ outer) ++ slot ∷ []
  grown = ap (λ xs. frame_of outer ++ xs) (map-append (λ e. e.1.1) es ((name, (level, slot)) ∷ [])) ∙ sym (append_assoc (frame_of outer) (slots_of es) (slot ∷ []))

  by : (b : Bool) → cond (not b) (Some ((cond b es (es ++ (name, (level, slot)) ∷ [])) ∷ outer)) None ≡ Some next → Defined s slot (es ∷ outer) next
  by true at = absurd cc
  by false at = subst (Defined s slot (es ∷ outer)) (same_Some whole next at) (record {
    fit = record {
      placed = (placed_more (in_scope outer) es name level slot fit.placed.0 refl, fit.placed.1);
      slots = subst (SlotsRight s) (sym grown) (slots_more s (frame_of (es ∷ outer)) slot fit.slots right);
    };
    frame = grown;
    outer = refl;
  })
