-- A text tells its side.
use Rattle.std.proofs.Common.{◌≡◌, ◌∙◌, ℕ, ◌<◌, ◌≤◌, ◌^◌, Bool, true, false, if◌then◌else◌, ◌==◌, List, [], ◌∷◌, ◌++◌, take, drop, length, slice_get, Option, Some, None, option_map, codes, decimal, flat_map, bytes_eq, refl, sym, ap, subst, arith}
use Rattle.std.proofs.lemmas.List.{append_cancel_left, map-id}
use Rattle.bsv_lemmas.proofs.Lists.{same_tail}
use Rattle.bsv_vtext.specs.declared.tree.VMethod.{VMethod}
use Rattle.bsv_vtext.specs.declared.tree.VWire.{VWire}
use Rattle.bsv_vtext.specs.declared.tree.Atom.{Atom}
use Rattle.bsv_vtext.specs.declared.tree.Atom.TheVariants as atom
use Rattle.bsv_vtext.specs.declared.tree.Side.{Side}
use Rattle.bsv_vtext.specs.declared.tree.Side.TheVariants as side
use Rattle.bsv_vtext.specs.declared.tree.VOperator.{VOperator}
use Rattle.bsv_vtext.specs.declared.tree.VOperator.TheVariants as operator
use Rattle.bsv_vtext.specs.Signals.{VModuleData, scope, arguments_of}
use Rattle.bsv_vtext.specs.Widths.{width_fits, atom_width, enable_width, Sort, Even, Comparing, Shifting, sort_of, FitsTwo, FitsJoined, FitsSlice, IsNamed, Fits}
use Rattle.bsv_vtext.specs.Widths as widths
use Rattle.bsv_vtext.specs.VText.{operator_text, joined_atom, joined_atoms, side_text}
use Rattle.bsv_vtext.specs.Modules.{IsModule, IsMethod, Stands}
use Rattle.bsv_vtext.proofs.Runs.{Each, Passes, Stops, split, behind, after_is, concat_on, pieces, same_lines, regrouped}
use Rattle.bsv_vtext.proofs.Glyphs.{is_glyph, same_number, fits_below}
use Rattle.bsv_vtext.proofs.SameAtoms.{SameNames, IsSized, said, is_opener, atom_glyphs, atom_opens_nothing, same_atom}

-- ---- what is known of a side: its atoms have widths, and its numbers are small

abbrev pub IsSide : VModuleData → Side → Type 0
IsSide c (side.Is a) = IsSized c a
IsSide c (side.Not a) = IsSized c a
IsSide c (side.Two o a b) = IsSized c a × IsSized c b
IsSide c (side.LessSigned a b) = IsSized c a × IsSized c b
IsSide c (side.UpToSigned a b) = IsSized c a × IsSized c b
IsSide c (side.ShiftSigned a b) = IsSized c a × IsSized c b
IsSide c (side.Pick t a b) = IsSized c t × (IsSized c a × IsSized c b)
IsSide c (side.Join []) = ⊥
IsSide c (side.Join (a ∷ rest)) = IsSized c a × Each (IsSized c) rest
IsSide c (side.Slice a high low) = IsSized c a × ((high < 2 ^ 64) × (low < 2 ^ 64))

sized : (c : VModuleData) (line : ℕ) (a : Atom) (width : ℕ) → Stands c line a width → IsSized c a
sized c line a width stands = (width, stands.0)

sized_two : (c : VModuleData) (line : ℕ) (sort : Sort) (a b : Atom) (width : ℕ) → FitsTwo (Stands c line) sort a b width → IsSized c a × IsSized c b
sized_two c line Even a b width fits = (sized c line a width fits.0, sized c line b width fits.1)
sized_two c line Comparing a b width fits = (sized c line a fits.1.0 fits.1.1.0, sized c line b fits.1.0 fits.1.1.1)
sized_two c line Shifting a b width fits = (sized c line a width fits.0, sized c line b fits.1.0 fits.1.1)

sized_parts : (c : VModuleData) (line : ℕ) (parts : List Atom) (width : ℕ) → FitsJoined (Stands c line) parts width → Each (IsSized c) parts
sized_parts c line parts width widths.none = tt
sized_parts c line parts width (widths.more {a = a} {rest = rest} own others stands fits) = (
  sized c line a own stands,
  sized_parts c line rest others
      fits,
)

sized_join : (c : VModuleData) (line : ℕ) (parts : List Atom) (width : ℕ) → 2 ≤ length parts → FitsJoined (Stands c line) parts width
    → IsSide c (side.Join parts)
sized_join c line [] width some fits = absurd (omega arith)
sized_join c line (a ∷ rest) width some fits = sized_parts c line (a ∷ rest) width fits

enable_below : (o : Option VMethod) (width : ℕ) → enable_width o ≡ Some width → width < 2 ^ 64
enable_below None width e = absurd cc
enable_below (Some m) width e = acting m.action e
  where
    acting : (action : Bool) → (if action then Some 1 else None) ≡ Some width → width < 2 ^ 64
    acting true f = let one : 1 ≡ width = cc in omega arith
    acting false f = absurd cc

width_below : {A : Type 0} (width_of : A → ℕ) (o : Option A) (width : ℕ) → ((x : A) → o ≡ Some x → width_of x < 2 ^ 64)
    → option_map width_of o ≡ Some width → width < 2 ^ 64
width_below width_of None width all e = absurd cc
width_below width_of (Some x) width all e = let same : width_of x ≡ width = cc in subst (λ (n : ℕ). n < 2 ^ 64) same (all x refl)

arguments_below : (o : Option VMethod) (k : ℕ) → ((m : VMethod) → o ≡ Some m → IsMethod m) → (a : VWire) → slice_get (arguments_of o) k ≡ Some a
    → a.width < 2 ^ 64
arguments_below None k known a e = absurd cc
arguments_below (Some m) k known a e = fits_below a.width ((known m refl).arguments k a e).width

named_below : (c : VModuleData) → IsModule c → (line : ℕ) (a : Atom) (width : ℕ) → IsNamed (Stands c line) a → atom_width c a ≡ Some width
    → width < 2 ^ 64
named_below c is line (atom.Enable m) width named e = enable_below (slice_get c.methods m) width e
named_below c is line (atom.Argument m k) width named e =
    width_below (λ a. a.width) (slice_get (arguments_of (slice_get c.methods m)) k) width (arguments_below (slice_get c.methods m) k (is.methods m)) e
named_below c is line (atom.Register k) width named e = width_below (λ r. r.start.width) (slice_get c.registers k) width
    (λ r f. omega (arith, (is.registers k r f).start.most)) e
named_below c is line (atom.Wire k) width named e = width_below (λ w. w.width) (slice_get c.wires k) width
    (λ w f. fits_below w.width (is.wires k w f).width) e
named_below c is line (atom.Constant w) width named e = absurd named

pub side_is : (c : VModuleData) → IsModule c → (line : ℕ) (x : Side) (width : ℕ) → Fits (Stands c line) x width → IsSide c x
side_is c is line (side.Is a) width fits = sized c line a width fits
side_is c is line (side.Not a) width fits = sized c line a width fits
side_is c is line (side.Two o a b) width fits = sized_two c line (sort_of o) a b width fits
side_is c is line (side.LessSigned a b) width fits = sized_two c line Comparing a b width fits
side_is c is line (side.UpToSigned a b) width fits = sized_two c line Comparing a b width fits
side_is c is line (side.ShiftSigned a b) width fits = sized_two c line Shifting a b width fits
side_is c is line (side.Pick t a b) width fits = (sized c line t 1 fits.0, sized_two c line Even a b width fits.1)
side_is c is line (side.Join parts) width fits = sized_join c line parts width fits.0 fits.1
side_is c is line (side.Slice a high low) width fits =
    let below : fits.own < 2 ^ 64 = named_below c is line a fits.own fits.named fits.stands.0.has_width in
    (sized c line a fits.own fits.stands, (omega (arith, fits.within), omega (arith, fits.within, fits.order)))

-- ---- the shape of a side

data Shape : Type 0 where
  Plain : Shape
  Inverted : Shape
  Operated : VOperator → Shape
  LessAsSigned : Shape
  UpToAsSigned : Shape
  ShiftAsSigned : Shape
  Chosen : Shape
  Joined : Shape
  Sliced : Shape

abbrev shape : Side → Shape
shape (side.Is a) = Plain
shape (side.Not a) = Inverted
shape (side.Two o a b) = Operated o
shape (side.LessSigned a b) = LessAsSigned
shape (side.UpToSigned a b) = UpToAsSigned
shape (side.ShiftSigned a b) = ShiftAsSigned
shape (side.Pick t a b) = Chosen
shape (side.Join parts) = Joined
shape (side.Slice a high low) = Sliced

-- the bytes by which a shape is told
abbrev marks : Shape → List ℕ
marks Plain = codes ";"
marks Inverted = codes "~"
marks (Operated o) = take 2 (drop 1 (operator_text o))
marks LessAsSigned = codes "$< "
marks UpToAsSigned = codes "$<="
marks ShiftAsSigned = codes "$>>"
marks Chosen = codes "? "
marks Joined = codes "{"
marks Sliced = codes "["

unfoldable operator_marked : List ℕ → VOperator
operator_marked m =
    if bytes_eq m (codes "+ ") then operator.Add else if bytes_eq m (codes "- ") then operator.Sub else
    if bytes_eq m (codes "* ") then operator.Mul else if bytes_eq m (codes "& ") then operator.And else
    if bytes_eq m (codes "| ") then operator.Or else if bytes_eq m (codes "^ ") then operator.Xor else
    if bytes_eq m (codes "==") then operator.Same else if bytes_eq m (codes "!=") then operator.Differs else
    if bytes_eq m (codes "< ") then operator.Less else if bytes_eq m (codes "<=") then operator.UpTo else
    if bytes_eq m (codes "<<") then operator.Shl else operator.Shr

unfoldable shape_marked : List ℕ → Shape
shape_marked m =
    if bytes_eq m (codes ";") then Plain else if bytes_eq m (codes "~") then Inverted else
    if bytes_eq m (codes "$< ") then LessAsSigned else if bytes_eq m (codes "$<=") then UpToAsSigned else
    if bytes_eq m (codes "$>>") then ShiftAsSigned else if bytes_eq m (codes "? ") then Chosen else
    if bytes_eq m (codes "{") then Joined else if bytes_eq m (codes "[") then Sliced else Operated (operator_marked m)

operator_told : (o : VOperator) → shape_marked (marks (Operated o)) ≡ Operated o
unfolding shape_marked operator_marked
operator_told operator.Add = refl
operator_told operator.Sub = refl
operator_told operator.Mul = refl
operator_told operator.And = refl
operator_told operator.Or = refl
operator_told operator.Xor = refl
operator_told operator.Same = refl
operator_told operator.Differs = refl
operator_told operator.Less = refl
operator_told operator.UpTo = refl
operator_told operator.Shl = refl
operator_told operator.Shr = refl

shape_told : (x : Shape) → shape_marked (marks x) ≡ x
unfolding shape_marked
shape_told Plain = refl
shape_told Inverted = refl
shape_told (Operated o) = operator_told o
shape_told LessAsSigned = refl
shape_told UpToAsSigned = refl
shape_told ShiftAsSigned = refl
shape_told Chosen = refl
shape_told Joined = refl
shape_told Sliced = refl

-- ---- which bytes a text is told by

-- after an atom: the byte there, or the two after a blank
unfoldable mark : List ℕ → List ℕ
mark [] = []
mark (b ∷ bs) = if b == 32 then take 2 bs else b ∷ []

-- after `$`, `~` or `{`: that byte, and after `$signed(` and an atom the two after `)` and a blank
unfoldable opened : ℕ → List ℕ → List ℕ
opened b bs = if b == 36 then 36 ∷ take 2 (drop 2 (behind is_glyph (drop 7 bs))) else b ∷ []

unfoldable told_by : List ℕ → List ℕ
told_by [] = []
told_by (b ∷ bs) = if is_opener b then opened b bs else mark (behind is_glyph (b ∷ bs))

told_after : (t r : List ℕ) → Each (Passes is_glyph) t → Stops is_opener t → Stops is_glyph r → told_by (t ++ r) ≡ mark r
unfolding told_by
told_after [] r some starts stop = absurd starts
told_after (b ∷ t) r some starts stop = rw starts (ap mark (after_is is_glyph (b ∷ t) r some stop))

told_after_signed : (t r : List ℕ) → Each (Passes is_glyph) t → Stops is_glyph r → told_by (codes "$signed(" ++ (t ++ r)) ≡ 36 ∷ take 2 (drop 2 r)
unfolding told_by opened is_opener
told_after_signed t r some stop = ap (λ (bs : List ℕ). 36 ∷ take 2 (drop 2 bs)) (after_is is_glyph t r some stop)

operator_stops : (o : VOperator) (r : List ℕ) → Stops is_glyph (operator_text o ++ r)
unfolding is_glyph
operator_stops operator.Add r = refl
operator_stops operator.Sub r = refl
operator_stops operator.Mul r = refl
operator_stops operator.And r = refl
operator_stops operator.Or r = refl
operator_stops operator.Xor r = refl
operator_stops operator.Same r = refl
operator_stops operator.Differs r = refl
operator_stops operator.Less r = refl
operator_stops operator.UpTo r = refl
operator_stops operator.Shl r = refl
operator_stops operator.Shr r = refl

operator_mark : (o : VOperator) (r : List ℕ) → mark (operator_text o ++ r) ≡ marks (Operated o)
unfolding mark
operator_mark operator.Add r = refl
operator_mark operator.Sub r = refl
operator_mark operator.Mul r = refl
operator_mark operator.And r = refl
operator_mark operator.Or r = refl
operator_mark operator.Xor r = refl
operator_mark operator.Same r = refl
operator_mark operator.Differs r = refl
operator_mark operator.Less r = refl
operator_mark operator.UpTo r = refl
operator_mark operator.Shl r = refl
operator_mark operator.Shr r = refl

-- ---- the pieces of sides that have several

abbrev two_pieces : VModuleData → List ℕ → Atom → Atom → List (List ℕ)
two_pieces c between a b = said c a ∷ between ∷ said c b ∷ []

abbrev signed_pieces : VModuleData → List ℕ → Atom → Atom → List (List ℕ)
signed_pieces c between a b = codes "$signed(" ∷ said c a ∷ between ∷ said c b ∷ codes ")" ∷ []

abbrev shift_pieces : VModuleData → Atom → Atom → List (List ℕ)
shift_pieces c a b = codes "$signed(" ∷ two_pieces c (codes ") >>> ") a b

abbrev pick_pieces : VModuleData → Atom → Atom → Atom → List (List ℕ)
pick_pieces c t a b = said c t ∷ codes " ? " ∷ two_pieces c (codes " : ") a b

abbrev join_pieces : VModuleData → List Atom → List (List ℕ)
join_pieces c parts = codes "{" ∷ joined_atoms (scope c) parts ∷ codes "}" ∷ []

abbrev slice_pieces : VModuleData → Atom → ℕ → ℕ → List (List ℕ)
slice_pieces c a high low = said c a ∷ codes "[" ∷ decimal high ∷ codes ":" ∷ decimal low ∷ codes "]" ∷ []

-- a text that begins with an atom is told by what comes after that
module _ (c : VModuleData) (is : IsModule c) where
  atom_told : (a : Atom) (r : List ℕ) → IsSized c a → Stops is_glyph r → told_by (said c a ++ r) ≡ mark r
  atom_told a r some stop = told_after (said c a) r (atom_glyphs c is a some) (atom_opens_nothing c is a some) stop

  signed_told : (a : Atom) (r : List ℕ) → IsSized c a → Stops is_glyph r → told_by (codes "$signed(" ++ (said c a ++ r)) ≡ 36 ∷ take 2 (drop 2 r)
  signed_told a r some stop = told_after_signed (said c a) r (atom_glyphs c is a some) stop

  -- 59 is the `;` after a side
  side_told : (x : Side) (r : List ℕ) → IsSide c x → told_by (side_text (scope c) x ++ 59 ∷ r) ≡ marks (shape x)
  unfolding is_glyph mark told_by opened is_opener
  side_told (side.Is a) r good = atom_told a (59 ∷ r) good refl
  side_told (side.Not a) r good = refl
  side_told (side.Two o a b) r good =
      ap told_by (concat_on (two_pieces c (operator_text o) a b) (59 ∷ r))
      ∙ atom_told a (operator_text o ++ (said c b ++ 59 ∷ r)) good.0 (operator_stops o (said c b ++ 59 ∷ r))
      ∙ operator_mark o (said c b ++ 59 ∷ r)
  side_told (side.LessSigned a b) r good =
      ap told_by (concat_on (signed_pieces c (codes ") < $signed(") a b) (59 ∷ r))
      ∙ signed_told a (codes ") < $signed(" ++ (said c b ++ (codes ")" ++ 59 ∷ r))) good.0 refl
  side_told (side.UpToSigned a b) r good =
      ap told_by (concat_on (signed_pieces c (codes ") <= $signed(") a b) (59 ∷ r))
      ∙ signed_told a (codes ") <= $signed(" ++ (said c b ++ (codes ")" ++ 59 ∷ r))) good.0 refl
  side_told (side.ShiftSigned a b) r good =
      ap told_by (concat_on (shift_pieces c a b) (59 ∷ r))
      ∙ signed_told a (codes ") >>> " ++ (said c b ++ 59 ∷ r)) good.0 refl
  side_told (side.Pick t a b) r good =
      ap told_by (concat_on (pick_pieces c t a b) (59 ∷ r))
      ∙ atom_told t (codes " ? " ++ (said c a ++ (codes " : " ++ (said c b ++ 59 ∷ r)))) good.0 refl
  side_told (side.Join parts) r good = refl
  side_told (side.Slice a high low) r good =
      ap told_by (concat_on (slice_pieces c a high low) (59 ∷ r))
      ∙ atom_told a (codes "[" ++ (decimal high ++ (codes ":" ++ (decimal low ++ (codes "]" ++ 59 ∷ r))))) good.0 refl

-- ---- two sides

module _ (c d : VModuleData) (is : IsModule c) (other : IsModule d) (same : SameNames c d) where
  -- an atom and what comes after it
  pub same_front : (a b : Atom) (r s : List ℕ) → IsSized c a → IsSized d b → Stops is_glyph r → Stops is_glyph s
      → said c a ++ r ≡ said d b ++ s → (a ≡ b) × (r ≡ s)
  same_front a b r s some any stop end e =
      let parts = split is_glyph (said c a) (said d b) r s (atom_glyphs c is a some) (atom_glyphs d other b any) stop end e in
      (same_atom c d is other same a b some any parts.0, parts.1)

  -- two atoms with a text between them
  same_pair : (a b x y : Atom) (between : List ℕ) (r s : List ℕ) → IsSized c a → IsSized c b → IsSized d x → IsSized d y
      → ((t : List ℕ) → Stops is_glyph (between ++ t)) → Stops is_glyph r → Stops is_glyph s
      → said c a ++ (between ++ (said c b ++ r)) ≡ said d x ++ (between ++ (said d y ++ s))
      → (a ≡ x) × ((b ≡ y) × (r ≡ s))
  same_pair a b x y between r s one two three four stops stop end e =
      let front = same_front a x (between ++ (said c b ++ r)) (between ++ (said d y ++ s)) one three (stops (said c b ++ r)) (stops (said d y ++ s)) e
      in
      (front.0, same_front b y r s two four stop end (append_cancel_left between (said c b ++ r) (said d y ++ s) front.1))

  -- the atoms of a join after the first one
  begins_more : List ℕ → Bool
  begins_more [] = false
  begins_more (b ∷ bs) = b == 44

  more_begins : (m : VModuleData) (a : Atom) (r : List ℕ) → (begins_more (joined_atom (scope m) a ++ r) ≡ true) × Stops is_glyph
      (joined_atom (scope m) a ++ r)
  unfolding begins_more is_glyph
  more_begins m a r = (refl, refl)

  more_end : (r : List ℕ) → (begins_more (codes "}" ++ r) ≡ false) × Stops is_glyph (codes "}" ++ r)
  unfolding begins_more is_glyph
  more_end r = (refl, refl)

  more_stops : (m : VModuleData) (rest : List Atom) (r : List ℕ) → Stops is_glyph (flat_map (joined_atom (scope m)) rest ++ (codes "}" ++ r))
  unfolding is_glyph
  more_stops m [] r = refl
  more_stops m (a ∷ rest) r = refl

  one_more : (a b : Atom) (r s : List ℕ) → IsSized c a → IsSized d b → Stops is_glyph r → Stops is_glyph s
      → joined_atom (scope c) a ++ r ≡ joined_atom (scope d) b ++ s → (a ≡ b) × (r ≡ s)
  one_more a b r s some any stop end e = same_front a b r s some any stop end (append_cancel_left (codes ", ") (said c a ++ r) (said d b ++ s) e)

  same_join : (a b : Atom) (xs ys : List Atom) (r s : List ℕ) → IsSide c (side.Join (a ∷ xs)) → IsSide d (side.Join (b ∷ ys))
      → joined_atoms (scope c) (a ∷ xs) ++ (codes "}" ++ r) ≡ joined_atoms (scope d) (b ∷ ys) ++ (codes "}" ++ s) → (a ∷ xs ≡ b ∷ ys) × (r ≡ s)
  same_join a b xs ys r s good fine e =
      let whole : said c a ++ (flat_map (joined_atom (scope c)) xs ++ (codes "}" ++ r)) ≡ said d b
      ++ (flat_map (joined_atom (scope d)) ys ++ (codes "}" ++ s))
      = regrouped (said c a) (flat_map (joined_atom (scope c)) xs) (codes "}" ++ r) (said d b) (flat_map (joined_atom (scope d)) ys)
      (codes "}" ++ s) e in
      let front = same_front a b (flat_map (joined_atom (scope c)) xs ++ (codes "}" ++ r)) (flat_map (joined_atom (scope d)) ys ++ (codes "}" ++ s))
      good.0 fine.0 (more_stops c xs r) (more_stops d ys s) whole in
      let rest = same_lines (joined_atom (scope c)) (joined_atom (scope d)) (IsSized c) (IsSized d) (λ (a : Atom). a) begins_more (Stops is_glyph)
      (more_begins c) (more_begins d) one_more
      xs ys (codes "}" ++ r) (codes "}" ++ s) good.1 fine.1 (more_end r) (more_end s) front.1 in
      let lists : xs ≡ ys = sym (map-id xs) ∙ rest.0 ∙ map-id ys in
      let all : a ∷ xs ≡ b ∷ ys = cc (front.0, lists) in
      (all, append_cancel_left (codes "}") r s rest.1)

  -- two sides of one shape
  same_shape : (x y : Side) (r s : List ℕ) → IsSide c x → IsSide d y → shape x ≡ shape y
      → side_text (scope c) x ++ 59 ∷ r ≡ side_text (scope d) y ++ 59 ∷ s → (x ≡ y) × (r ≡ s)
  unfolding is_glyph
  same_shape (side.Is a) (side.Is b) r s good fine one e =
      let parts = same_front a b (59 ∷ r) (59 ∷ s) good fine refl refl e in
      (ap side.Is parts.0, same_tail 59 59 r s parts.1)
  same_shape (side.Not a) (side.Not b) r s good fine one e =
      let parts = same_front a b (59 ∷ r) (59 ∷ s) good fine refl refl (append_cancel_left (codes "~") (said c a ++ 59 ∷ r) (said d b ++ 59 ∷ s) e) in
      (ap side.Not parts.0, same_tail 59 59 r s parts.1)
  same_shape (side.Two o a b) (side.Two q x y) r s good fine one e =
      let op : o ≡ q = cc in
      let whole = pieces (two_pieces c (operator_text o) a b) (two_pieces d (operator_text q) x y) (59 ∷ r) (59 ∷ s) e in
      let parts = same_pair a b x y (operator_text o) (59 ∷ r) (59 ∷ s) good.0 good.1 fine.0 fine.1 (operator_stops o) refl refl
      (whole ∙ ap (λ (q : VOperator). said d x ++ (operator_text q ++ (said d y ++ 59 ∷ s))) (sym op)) in
      (cc (op, parts.0, parts.1.0), same_tail 59 59 r s parts.1.1)
  same_shape (side.LessSigned a b) (side.LessSigned x y) r s good fine one e =
      let whole = pieces (signed_pieces c (codes ") < $signed(") a b) (signed_pieces d (codes ") < $signed(") x y) (59 ∷ r) (59 ∷ s) e in
      let parts = same_pair a b x y (codes ") < $signed(") (codes ")" ++ 59 ∷ r) (codes ")" ++ 59 ∷ s) good.0 good.1 fine.0 fine.1 (λ t. refl) refl
      refl (append_cancel_left (codes "$signed(") _ _ whole) in
      (cc (parts.0, parts.1.0), append_cancel_left (codes ");") r s parts.1.1)
  same_shape (side.UpToSigned a b) (side.UpToSigned x y) r s good fine one e =
      let whole = pieces (signed_pieces c (codes ") <= $signed(") a b) (signed_pieces d (codes ") <= $signed(") x y) (59 ∷ r) (59 ∷ s) e in
      let parts = same_pair a b x y (codes ") <= $signed(") (codes ")" ++ 59 ∷ r) (codes ")" ++ 59 ∷ s) good.0 good.1 fine.0 fine.1 (λ t. refl) refl
      refl (append_cancel_left (codes "$signed(") _ _ whole) in
      (cc (parts.0, parts.1.0), append_cancel_left (codes ");") r s parts.1.1)
  same_shape (side.ShiftSigned a b) (side.ShiftSigned x y) r s good fine one e =
      let whole = pieces (shift_pieces c a b) (shift_pieces d x y) (59 ∷ r) (59 ∷ s) e in
      let parts = same_pair a b x y (codes ") >>> ") (59 ∷ r) (59 ∷ s) good.0 good.1 fine.0 fine.1 (λ t. refl) refl refl
      (append_cancel_left (codes "$signed(") _ _ whole) in
      (cc (parts.0, parts.1.0), same_tail 59 59 r s parts.1.1)
  same_shape (side.Pick t a b) (side.Pick u x y) r s good fine one e =
      let whole = pieces (pick_pieces c t a b) (pick_pieces d u x y) (59 ∷ r) (59 ∷ s) e in
      let test = same_front t u _ _ good.0 fine.0 refl refl whole in
      let parts = same_pair a b x y (codes " : ") (59 ∷ r) (59 ∷ s) good.1.0 good.1.1 fine.1.0 fine.1.1 (λ t. refl) refl refl
      (append_cancel_left (codes " ? ") _ _ test.1) in
      (cc (test.0, parts.0, parts.1.0), same_tail 59 59 r s parts.1.1)
  same_shape (side.Join []) (side.Join ys) r s good fine one e = absurd good
  same_shape (side.Join (a ∷ xs)) (side.Join []) r s good fine one e = absurd fine
  same_shape (side.Join (a ∷ xs)) (side.Join (b ∷ ys)) r s good fine one e =
      let whole = pieces (join_pieces c (a ∷ xs)) (join_pieces d (b ∷ ys)) (59 ∷ r) (59 ∷ s) e in
      let parts = same_join a b xs ys (59 ∷ r) (59 ∷ s) good fine (append_cancel_left (codes "{") _ _ whole) in
      (ap side.Join parts.0, same_tail 59 59 r s parts.1)
  same_shape (side.Slice a high low) (side.Slice b top bottom) r s good fine one e =
      let whole = pieces (slice_pieces c a high low) (slice_pieces d b top bottom) (59 ∷ r) (59 ∷ s) e in
      let front = same_front a b _ _ good.0 fine.0 refl refl whole in
      let upper = same_number high top _ _ good.1.0 fine.1.0 refl refl (append_cancel_left (codes "[") _ _ front.1) in
      let lower = same_number low bottom _ _ good.1.1 fine.1.1 refl refl (append_cancel_left (codes ":") _ _ upper.1) in
      (cc (front.0, upper.0, lower.0), append_cancel_left (codes "];") r s lower.1)
  same_shape _ _ r s good fine one e = absurd cc

  pub same_side : (x y : Side) (r s : List ℕ) → IsSide c x → IsSide d y → side_text (scope c) x ++ 59 ∷ r ≡ side_text (scope d) y ++ 59 ∷ s
      → (x ≡ y) × (r ≡ s)
  same_side x y r s good fine e =
      let told : marks (shape x) ≡ marks (shape y) = sym (side_told c is x r good) ∙ ap told_by e ∙ side_told d other y s fine in
      same_shape x y r s good fine (sym (shape_told (shape x)) ∙ ap shape_marked told ∙ shape_told (shape y)) e
