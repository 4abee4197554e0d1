-- What the methods of a part look at where these calls were made on it: the part after just those that the method sees.
use Rattle.std.specs.Prelude.{◌≡◌, ℕ, ◌<◌, Bool, true, not, List, [], ◌∷◌, Option, Some, None, slice_get, length}
use Rattle.std.specs.List.{AllByRecursion, list_all}
use Rattle.bsv_prim.specs.Calls as prim
use Rattle.bsv_prim.specs.Calls.{IsReady}
use Rattle.bsv_prim.specs.Table.{Table, Call, CallFits}
use Rattle.bsv_prim.specs.declared.part.Part.{Part}
use Rattle.bsv_design.specs.declared.kind.Kind.{Kind}
use Rattle.bsv_design.specs.design.Bodies.{Target}
use Rattle.bsv_design.specs.parts.Kinds.{kind_table}
use Rattle.bsv_design.specs.scheme.Schemes.{Look}
use Rattle.bsv_design.specs.scheme.States.{part_at}
use Rattle.bsv_design.specs.scheme.Traces.{kind_at}
use Rattle.bsv_serial.specs.declared.calls_made.MadeCall.{MadeCall}
use Rattle.bsv_serial.specs.CallsMade.{as_calls}

-- ---- one part

-- those of the calls that the method sees
abbrev pub seen_of : Kind → ℕ → List MadeCall → List Call
seen_of k m cs = prim.seen_by (kind_table k) m (as_calls cs)

-- the method sees none of them
abbrev pub sees_none : Kind → ℕ → List MadeCall → Bool
sees_none k m cs = list_all (λ c. not ((kind_table k).sees c.method m)) cs

-- the part after them
unfoldable pub after_seen : Kind → ℕ → Part → List MadeCall → Part
after_seen k m p cs = prim.look (kind_table k) m p (as_calls cs)

-- the calls can be applied one after the other
abbrev pub CanBeApplied : Table → Part → List Call → Type 0
CanBeApplied t p [] = Unit {0}
CanBeApplied t p (c ∷ cs) =
    CallFits t c × (t.is_action c.method ≡ true) × IsReady t p c × CanBeApplied t (prim.after_call t p c) cs

abbrev pub AreMethods : Kind → List MadeCall → Type 0
AreMethods k cs = AllByRecursion (λ c. c.method < (kind_table k).methods) cs

-- the method is one of the part, which fits, and what it sees can be applied
pub record CanLook (k : Kind) (m : ℕ) (p : Part) (cs : List MadeCall) : Type 0 where
  pub method : m < (kind_table k).methods
  pub part : (kind_table k).Fits p
  pub methods : AreMethods k cs
  pub calls : CanBeApplied (kind_table k) p (seen_of k m cs)

-- ---- all parts

abbrev pub or_none : {X : Type 0} → Option (List X) → List X
or_none None = []
or_none (Some xs) = xs

abbrev pub part_after : Option Kind → ℕ → Part → List MadeCall → Part
part_after None m p cs = p
part_after (Some k) m p cs = after_seen k m p cs

-- what each method looks at where these calls were made on each part
unfoldable pub look_with : List Kind → List Part → List (List MadeCall) → Look
look_with ks ps calls_made t = part_after (kind_at ks t) t.method (part_at ps t.part) (or_none (slice_get calls_made t.part))

abbrev pub MayLook : Option Kind → ℕ → Part → List MadeCall → Type 0
MayLook None m p cs = ⊥
MayLook (Some k) m p cs = CanLook k m p cs

-- there is such a part
pub record CanLookAt (ks : List Kind) (ps : List Part) (calls_made : List (List MadeCall)) (t : Target) : Type 0 where
  pub there : t.part < length ps
  pub may : MayLook (kind_at ks t) t.method (part_at ps t.part) (or_none (slice_get calls_made t.part))
