-- When what steps do is what the source means.
use Rattle.std.proofs.Common.{◌≡◌, ℕ, zero, suc, false, List, [], ◌∷◌, ◌++◌, length, map, Some, Result, Ok, Err, refl, sym, ap, ap₂, ◌∙◌, append_assoc, append-nil}
use Rattle.std.specs.Prelude.{slice_get}
use Rattle.bsv_fail.specs.Given.{◌>>=◌}
use Rattle.bsv_bits.specs.Words.{Bits}
use Rattle.bsv_tree.specs.declared.steps.Atom.{Atom}
use Rattle.bsv_tree.specs.declared.steps.Atom.TheVariants as atom
use Rattle.bsv_tree.specs.declared.values.Value.{Value}
use Rattle.bsv_tree.specs.declared.values.Value.TheVariants as value
use Rattle.bsv_tree.specs.declared.values.Local.{Local}
use Rattle.bsv_tree.specs.declared.values.Work.{Work}
use Rattle.bsv_tree.specs.carrying.Values as values
use Rattle.bsv_tree.specs.carrying.Values.{atom_of}
use Rattle.bsv_tree.specs.carrying.Running as running
use Rattle.bsv_design.specs.design.Words as the_words
use Rattle.bsv_tree.specs.meaning.Evaluation.{Results, Standing}
use Rattle.bsv_tree.specs.carrying.Running.{Happening, Run, in_turn, run, followed}
use Rattle.bsv_tree.specs.meaning.Values.{Value as Val, static, varying, word_of, is_static, Variable, Variables}
use Rattle.bsv_tree.specs.meaning.Evaluation.{Evaluated, Evaluation}

-- ---- values: a static one is itself, and an atom is the word that stands in its slot

abbrev pub Within : List Bits → List Bits → Type 0
Within V W = (k : ℕ) (w : Bits) → slice_get V k ≡ Some w → slice_get W k ≡ Some w

-- what holds of words also holds where there are more of them
abbrev pub Grows : (List Bits → Type 0) → Type 0
Grows P = (V W : List Bits) → Within V W → P V → P W

abbrev pub Names : List Bits → Atom → Bits → Type 0
Names V (atom.Word b) w = b ≡ w
Names V (atom.Slot k) w = slice_get V k ≡ Some w

abbrev pub Shows : List Bits → Value → Val → Type 0
Shows V (value.Static c) x = x ≡ static c
Shows V (value.Open a) x = (w : Bits) × Names V a w × (x ≡ varying w)

abbrev pub AllShow : List Bits → List Value → List Val → Type 0
AllShow V [] [] = Unit {0}
AllShow V (v ∷ vs) (x ∷ xs) = Shows V v x × AllShow V vs xs
AllShow V _ _ = ⊥

-- a variable that is lost shows nothing; only an Integer is lost
pub record Holds (V : List Bits) (v : Local) (x : Variable) : Type 0 where
  pub shows : v.lost ≡ false → Shows V v.value x.value
  pub lost : v.integer ≡ false → v.lost ≡ false
  pub assigned : v.touched ≡ x.assigned

abbrev pub AllHold : List Bits → List Local → Variables → Type 0
AllHold V [] [] = Unit {0}
AllHold V (v ∷ vs) (x ∷ xs) = Holds V v x × AllHold V vs xs
AllHold V _ _ = ⊥

pub names_within : (V W : List Bits) → Within V W → (a : Atom) (w : Bits) → Names V a w → Names W a w
names_within V W h (atom.Word b) w e = e
names_within V W h (atom.Slot k) w e = h k w e

pub shows_within : (V W : List Bits) → Within V W → (v : Value) (x : Val) → Shows V v x → Shows W v x
shows_within V W h (value.Static c) x e = e
shows_within V W h (value.Open a) x e = (e.0, names_within V W h a e.0 e.1, e.2)

pub all_show_within : (V W : List Bits) → Within V W → (vs : List Value) (xs : List Val) → AllShow V vs xs → AllShow W vs xs
all_show_within V W h [] [] e = tt
all_show_within V W h (v ∷ vs) (x ∷ xs) e = (shows_within V W h v x e.0, all_show_within V W h vs xs e.1)
all_show_within V W h [] (x ∷ xs) e = absurd e
all_show_within V W h (v ∷ vs) [] e = absurd e

pub all_show_append : (V : List Bits) (vs us : List Value) (xs ys : List Val) → AllShow V vs xs → AllShow V us ys → AllShow V (vs ++ us) (xs ++ ys)
all_show_append V [] us [] ys e f = f
all_show_append V (v ∷ vs) us (x ∷ xs) ys e f = (e.0, all_show_append V vs us xs ys e.1 f)
all_show_append V [] us (x ∷ xs) ys e f = absurd e
all_show_append V (v ∷ vs) us [] ys e f = absurd e

holds_within : (V W : List Bits) → Within V W → (v : Local) (x : Variable) → Holds V v x → Holds W v x
holds_within V W h v x e = record { shows = λ i. shows_within V W h v.value x.value (e.shows i); lost = e.lost; assigned = e.assigned }

pub all_hold_within : (V W : List Bits) → Within V W → (vs : List Local) (xs : Variables) → AllHold V vs xs → AllHold W vs xs
all_hold_within V W h [] [] e = tt
all_hold_within V W h (v ∷ vs) (x ∷ xs) e = (holds_within V W h v x e.0, all_hold_within V W h vs xs e.1)
all_hold_within V W h [] (x ∷ xs) e = absurd e
all_hold_within V W h (v ∷ vs) [] e = absurd e

pub names_word : (V : List Bits) (a : Atom) (w : Bits) → Names V a w → running.word_of V a ≡ w
names_word V (atom.Word b) w e = e
names_word V (atom.Slot k) w e = ap the_words.or_zero e

pub shows_word : (V : List Bits) (v : Value) (x : Val) → Shows V v x → running.word_of V (atom_of v) ≡ word_of x
shows_word V (value.Static c) x e = ap word_of (sym e)
shows_word V (value.Open a) x e = names_word V a e.0 e.1 ∙ ap word_of (sym e.2)

pub all_show_words : (V : List Bits) (vs : List Value) (xs : List Val) → AllShow V vs xs → running.words_of V (map atom_of vs) ≡ map word_of xs
all_show_words V [] [] e = refl
all_show_words V (v ∷ vs) (x ∷ xs) e = ap₂ (λ (a : Bits) (b : List Bits). a ∷ b) (shows_word V v x e.0) (all_show_words V vs xs e.1)
all_show_words V [] (x ∷ xs) e = absurd e
all_show_words V (v ∷ vs) [] e = absurd e

pub shows_static : (V : List Bits) (v : Value) (x : Val) → Shows V v x → values.is_static v ≡ is_static x
shows_static V (value.Static c) x e = ap is_static (sym e)
shows_static V (value.Open a) x e = ap is_static (sym e.2)

pub within_append : (V W : List Bits) → Within V (V ++ W)
within_append [] W k w e = absurd cc
within_append (x ∷ V) W zero w e = e
within_append (x ∷ V) W (suc k) w e = within_append V W k w e

pub got_after : (V W : List Bits) (w : Bits) → slice_get (V ++ w ∷ W) (length V) ≡ Some w
got_after [] W w = refl
got_after (v ∷ V) W w = got_after V W w

pub at_end : (V : List Bits) (w : Bits) → slice_get (V ++ w ∷ []) (length V) ≡ Some w
at_end [] w = refl
at_end (x ∷ V) w = at_end V w

-- ---- what a run adds

pub record Adds {A : Type 0} (a b : Happening) (d : Evaluated A) : Type 0 where
  pub within : Within a.words b.words
  pub choices : b.choices ≡ d.choices
  pub sites : b.sites ≡ d.sites
  pub calls : b.calls ≡ a.calls ++ d.calls
  pub needs : b.needs ≡ a.needs ++ d.needs

-- a run from the start of an element, up to this work
module _ (r : Results) (p : Standing) (ws : List Bits) (n k : ℕ) where
  abbrev pub ran : Work → Happening
  ran w = in_turn (map run w.steps) r p ws n k

  abbrev pub IsLong : Work → Type 0
  IsLong w = length (ran w).words ≡ w.count.slots

  -- from one work to a later one is told this, of which the run gives what is related to it
  pub record Same {A : Type 0} (Q : List Bits → A → Type 0) (w v : Work) (d : Evaluated A) : Type 0 where
    pub adds : Adds (ran w) (ran v) d
    pub long : IsLong v
    pub gives : Q (ran v).words d.gives

  abbrev pub here : {A : Type 0} → Work → Evaluation A → Evaluated A
  here w m = m p (ran w).choices (ran w).sites

pub one_more : (r : Results) (p : Standing) (ws : List Bits) (n k : ℕ) (xs : List Run) (y : Run)
    → in_turn (xs ++ y ∷ []) r p ws n k ≡ (let a = in_turn xs r p ws n k in followed a (y r p a.words a.choices a.sites))
unfolding in_turn
one_more r p ws n k [] y =
    let b = y r p ws n k in
    ap₂ (λ cs ns. let h : Happening = record { words = b.words; choices = b.choices; sites = b.sites; calls = cs; needs = ns } in h) (append-nil b.calls) (append-nil b.needs)
one_more r p ws n k (x ∷ xs) y =
    let a = x r p ws n k in
    let c = in_turn xs r p a.words a.choices a.sites in
    let b = y r p c.words c.choices c.sites in
    ap (followed a) (one_more r p a.words a.choices a.sites xs y)
    ∙ ap₂ (λ cs ns. let h : Happening = record { words = b.words; choices = b.choices; sites = b.sites; calls = cs; needs = ns } in h)
    (sym (append_assoc a.calls c.calls b.calls)) (sym (append_assoc a.needs c.needs b.needs))

-- ---- answers that are there

pub got : {A B E : Type 0} (m : Result A E) (f : A → Result B E) (y : B) → (m >>= f) ≡ Ok y → (x : A) × (m ≡ Ok x) × (f x ≡ Ok y)
got (Ok x) f y e = (x, refl, e)
got (Err x) f y e = absurd cc
