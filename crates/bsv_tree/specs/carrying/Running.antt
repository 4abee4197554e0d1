-- What the steps of an element do, with a word for each call of a value method (Bluespec reference guide, "Rules",
-- "Implicit conditions"). Every arm is run, and each call and each need tells whether it is taken: so what an element
-- asks in all its branches, and what it does in those that are taken, is read off one run.
use Rattle.std.specs.Prelude.{ℕ, ◌+◌, Bool, true, false, cond, not, ◌&&◌, List, [], ◌∷◌, ◌++◌, map, slice_get, if◌then◌else◌}
use Rattle.bsv_bits.specs.Words.{Bits, word_not}
use Rattle.bsv_tree.specs.declared.steps.Atom.{Atom}
use Rattle.bsv_tree.specs.declared.steps.Atom.TheVariants as atom
use Rattle.bsv_tree.specs.declared.steps.Compute.{Compute}
use Rattle.bsv_tree.specs.declared.steps.Compute.TheVariants as compute
use Rattle.bsv_tree.specs.declared.steps.MethodPlace.{MethodPlace}
use Rattle.bsv_tree.specs.declared.steps.Step.{Step, fold-Step}
use Rattle.bsv_tree.specs.declared.steps.Step.TheOpen.{Step-F, Choice-F, Arm-F}
use Rattle.bsv_design.specs.design.Computing as computing
use Rattle.bsv_design.specs.design.Words.{or_zero, is_one}
use Rattle.bsv_tree.specs.meaning.Evaluation.{Results, Standing, SiteCall, Need}

-- ---- words

-- a word that a step names, where these words stand
abbrev pub word_of : List Bits → Atom → Bits
word_of ws (atom.Word w) = w
word_of ws (atom.Slot k) = or_zero (slice_get ws k)

abbrev pub words_of : List Bits → List Atom → List Bits
words_of ws atoms = map (word_of ws) atoms

abbrev pub computed : List Bits → Compute → Bits
computed ws (compute.Not a) = word_not (word_of ws a)
computed ws (compute.Two o a b) = computing.between o (word_of ws a) (word_of ws b)
computed ws (compute.Pick t a b) = computing.picked (word_of ws t) (word_of ws a) (word_of ws b)
computed ws (compute.Slice a high low) = computing.sliced (word_of ws a) high low
computed ws (compute.Join a b) = computing.joined (word_of ws a) (word_of ws b)
computed ws (compute.Extend a width) = computing.extended (word_of ws a) width
computed ws (compute.SignExtend a width) = computing.sign_extended (word_of ws a) width

-- ---- what happens

-- the words that stand, how many choices and calls there were, and the calls and the needs in text order
pub record Happening : Type 0 where
  pub words : List Bits
  pub choices : ℕ
  pub sites : ℕ
  pub calls : List SiteCall
  pub needs : List Need

-- from where it stands, the words that stand, and the choices and the calls so far
abbrev pub Run : Type 0
Run = Results → Standing → List Bits → ℕ → ℕ → Happening

abbrev pub quiet : List Bits → ℕ → ℕ → Happening
quiet ws n k = record { words = ws; choices = n; sites = k; calls = []; needs = [] }

abbrev pub followed : Happening → Happening → Happening
followed a b = record { words = b.words; choices = b.choices; sites = b.sites; calls = a.calls ++ b.calls; needs = a.needs ++ b.needs }

-- steps, one after the other
unfoldable pub in_turn : List Run → Run
in_turn [] r p ws n k = quiet ws n k
in_turn (x ∷ xs) r p ws n k = let a = x r p ws n k in followed a (in_turn xs r p a.words a.choices a.sites)

-- a call comes before those in its arguments
abbrev pub call_run : Bool → MethodPlace → List Atom → List Run → (List Bits → List Bits) → Run
call_run action m atoms inner adds r p ws n k =
    let a = in_turn inner r p ws n (k + 1) in
    record {
      words = a.words ++ adds (words_of a.words atoms);
      choices = a.choices;
      sites = a.sites;
      calls = record { method = m; action = action; taken = p.taken; branches = p.branches; arguments = words_of a.words atoms } ∷ a.calls;
      needs = a.needs;
    }

-- ---- choices

-- an arm, with the steps of its condition
pub record Alternative : Type 0 where
  pub condition : List Run
  pub test : Atom
  pub body : List Run
  pub gives : List Atom

abbrev pub inside : Standing → Bool → ℕ → ℕ → Standing
inside p taken choice arm = record { taken = taken; branches = p.branches ++ record { choice = choice; arm = arm } ∷ [] }

-- the words of the one arm, or else of the other
abbrev pub picked : Bool → List Bits → List Bits → List Bits
picked t [] bs = []
picked t (x ∷ xs) [] = []
picked t (x ∷ xs) (y ∷ ys) = cond t x y ∷ picked t xs ys

-- the last arm, whose words are those that it gives
abbrev pub last_run : List Run → List Atom → Run
last_run last gives r p ws n k = let a = in_turn last r p ws n k in record a { words = words_of a.words gives }

-- after a condition: its arm, and what follows where it is not taken
abbrev pub either_run : Happening → Bool → Happening → List Atom → Happening → Happening
either_run asked t body gives others = record {
  words = picked t (words_of body.words gives) others.words;
  choices = others.choices;
  sites = others.sites;
  calls = asked.calls ++ (body.calls ++ others.calls);
  needs = asked.needs ++ (body.needs ++ others.needs);
}

-- One choice whose conditions are in none of its arms: the arms of the choice of this number from this arm on. `left`
-- tells whether none before is taken
unfoldable pub arms_run : List Run → List Atom → List Alternative → ℕ → ℕ → Bool → Run
arms_run last gives [] choice arm left r p ws n k = last_run last gives r (inside p left choice arm) ws n k
arms_run last gives (x ∷ xs) choice arm left r p ws n k =
    let asked = in_turn x.condition r p ws n k in
    let t = is_one (word_of asked.words x.test) in
    let body = in_turn x.body r (inside p (left && t) choice arm) asked.words asked.choices asked.sites in
    either_run asked t body x.gives
    (arms_run last gives xs choice (arm + 1) (left && not t) r p asked.words body.choices body.sites)

-- Choices in one another: each condition after the first one is in the last arm of the choice of the one before it
unfoldable pub nested_run : List Run → List Atom → List Alternative → Run
nested_run last gives [] r p ws n k = last_run last gives r p ws n k
nested_run last gives (x ∷ xs) r p ws n k =
    let asked = in_turn x.condition r p ws n k in
    let t = is_one (word_of asked.words x.test) in
    let choice = asked.choices in
    let body = in_turn x.body r (inside p (p.taken && t) choice 0) asked.words (choice + 1) asked.sites in
    either_run asked t body x.gives
    (nested_run last gives xs r (inside p (p.taken && not t) choice 1) asked.words body.choices body.sites)

-- ---- all steps

abbrev pub step_run : Step-F Run Alternative Run → Run
step_run (Step-F.Let c) r p ws n k = quiet (ws ++ computed ws c ∷ []) n k
step_run (Step-F.Read m atoms inner) r p ws n k = call_run false m atoms inner (λ args. r k m args ∷ []) r p ws n k
step_run (Step-F.Act m atoms inner) r p ws n k = call_run true m atoms inner (λ args. []) r p ws n k
step_run (Step-F.Need name a inner) r p ws n k =
    let x = in_turn inner r p ws n k in
    record x { needs = record { name = name; truth = is_one (word_of x.words a); taken = p.taken } ∷ x.needs }
step_run (Step-F.Choose choice) r p ws n k = let a = choice r p ws n k in record a { words = ws ++ a.words }

abbrev pub choice_run : Choice-F Run Alternative Run → Run
choice_run c r p ws n k =
    if c.nested then nested_run c.last c.gives c.arms r p ws n k else arms_run c.last c.gives c.arms n 0 p.taken r p ws (n + 1) k

abbrev pub arm_run : Arm-F Run Alternative Run → Alternative
arm_run a = record { condition = a.condition; test = a.test; body = a.body; gives = a.gives }

unfoldable pub run : Step → Run
run = fold-Step Run Alternative Run step_run arm_run choice_run

-- the steps of an element, whose arguments are its first words
unfoldable pub happening : List Step → Results → List Bits → Happening
happening ss r args = in_turn (map run ss) r (record { taken = true; branches = [] }) args 0 0
