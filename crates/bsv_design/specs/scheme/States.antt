-- States and requests of a design (Bluespec reference guide, "Registers", "FIFOs", "Wires").
use Rattle.std.specs.Prelude.{◌≡◌, ℕ, Bool, false, cond, List, [], ◌∷◌, map, slice_get, slice_set, Option, Some, None}
use Rattle.bsv_bits.specs.Words.{Bits, zero_word}
use Rattle.bsv_prim.specs.declared.part.Part.{Part}
use Rattle.bsv_prim.specs.declared.part.Part.TheVariants as part
use Rattle.bsv_prim.specs.Table.{IsWordOf}
use Rattle.bsv_design.specs.declared.element.Element.{Element}
use Rattle.bsv_design.specs.declared.element.Port.{Port}
use Rattle.bsv_design.specs.declared.kind.Kind.{Kind}
use Rattle.bsv_design.specs.parts.Kinds.{kind_table}
use Rattle.bsv_design.specs.design.Roles.{is_rule}
use Rattle.bsv_design.specs.scheme.Schemes.{Asking, Called, Look}
use Rattle.bsv_design.specs.scheme.Traces.{kind_at}

-- ---- states: a part of each kind, in building order

abbrev pub FitsKinds : List Kind → List Part → Type 0
FitsKinds [] [] = Unit {0}
FitsKinds (k ∷ ks) (p ∷ ps) = (kind_table k).Fits p × FitsKinds ks ps
FitsKinds _ _ = ⊥

-- before the first clock: start values, empty queues and empty wires
abbrev pub opening : List Kind → List Part
opening ks = map (λ k. (kind_table k).opening) ks

-- at the start of a clock: every wire is empty, and all else is as it was
abbrev pub emptied : List Kind → List Part → List Part
emptied (k ∷ ks) (p ∷ ps) = (kind_table k).emptied p ∷ emptied ks ps
emptied _ ps = ps

-- nothing is held where there is no part
abbrev pub or_nothing : Option Part → Part
or_nothing None = part.Held None
or_nothing (Some p) = p

abbrev pub part_at : List Part → ℕ → Part
part_at ps n = or_nothing (slice_get ps n)

-- every method looks at the parts as they are
abbrev pub plain : List Part → Look
plain ps t = part_at ps t.part

-- the parts under a look fit
abbrev pub FitLook : List Kind → Look → Type 0
FitLook ks look = (n m : ℕ) (k : Kind) → slice_get ks n ≡ Some k → (kind_table k).Fits (look (record { part = n; method = m }))

-- ---- calls

abbrev pub applied : Option Kind → ℕ → Part → List Bits → Part
applied None m p args = p
applied (Some k) m p args = (kind_table k).apply m p args

-- the parts after a call
unfoldable pub after_call : List Kind → List Part → Called → List Part
after_call ks ps c = slice_set ps c.target.part (applied (kind_at ks c.target) c.target.method (part_at ps c.target.part) c.arguments)

-- and after calls in their order
abbrev pub after_calls : List Kind → List Part → List Called → List Part
after_calls ks ps [] = ps
after_calls ks ps (c ∷ cs) = after_calls ks (after_call ks ps c) cs

-- ---- requests: an entry for each method of the top

-- the elements before the first rule
abbrev pub methods_in : List Element → List Element
methods_in [] = []
methods_in (e ∷ es) = cond (is_rule e.role) [] (e ∷ methods_in es)

-- a word for each argument, of its width
abbrev pub AreWordsOf : List Port → List Bits → Type 0
AreWordsOf [] [] = Unit {0}
AreWordsOf (p ∷ ps) (w ∷ ws) = IsWordOf p.width w × AreWordsOf ps ws
AreWordsOf _ _ = ⊥

abbrev pub FitMethods : List Element → List Bool → List (List Bits) → Type 0
FitMethods [] [] [] = Unit {0}
FitMethods (e ∷ es) (a ∷ asked) (ws ∷ args) = AreWordsOf e.arguments ws × FitMethods es asked args
FitMethods _ _ _ = ⊥

abbrev pub AskingFits : List Element → Asking → Type 0
AskingFits es q = FitMethods (methods_in es) q.asked q.args

-- nothing is asked, and all arguments are 0
abbrev pub zeros : List Port → List Bits
zeros ps = map (λ p. zero_word p.width) ps

abbrev pub nothing_asked : List Element → Asking
nothing_asked es = record { asked = map (λ e. false) (methods_in es); args = map (λ e. zeros e.arguments) (methods_in es) }
