-- What is read is what the line asks for, both ways.
use Rattle.std.proofs.Common.{◌≡◌, ◌∙◌, ◌⊎◌, inl, inr, ℕ, List, map, Some, None, Option, refl, sym, ap, subst, IsTrue}
use Rattle.std.specs.List.{list_all}
use Rattle.bsv_design.specs.declared.design.Design.{Design}
use Rattle.bsv_design.specs.declared.element.Element.{Element}
use Rattle.bsv_design.specs.scheme.Schemes.{Asking, Outline, outline}
use Rattle.bsv_design.specs.scheme.States.{methods_in, nothing_asked, AskingFits}
use Rattle.bsv_design.proofs.Asked.{nothing_fits}
use Rattle.bsv_trace.specs.Lines.{AreMethods, AsksFor, methods_among, nothing_of}
use Rattle.bsv_trace.specs.Reading.{HasPlaces, ports_fit, read}
use Rattle.bsv_trace.proofs.Clearing.{nothing_places}
use Rattle.bsv_trace.proofs.Complete.{read_complete}
use Rattle.bsv_trace.proofs.Fresh.{fresh_apart, calls_fresh}
use Rattle.bsv_trace.proofs.Methods.{methods_outlined, nothing_outlined}
use Rattle.bsv_trace.proofs.Readable.{readable, methods_fit, line_fits}
use Rattle.bsv_trace.proofs.Sound.{read_sound}

-- ---- outlines

module _ (outlines : List Outline) (line : List ℕ) where
  -- what is read where nothing is asked yet
  abbrev found : Option Asking
  found = read (methods_among outlines) line (nothing_of (methods_among outlines))

  asked_where : (q : Asking) → found ≡ Some q → AsksFor outlines line q
  asked_where q is =
      let methods = methods_among outlines in
      let all = read_sound methods line (nothing_of methods) q (nothing_places methods) is in
      record {
        pieces = all.pieces;
        calls = all.calls;
        each = all.each;
        apart = fresh_apart (nothing_of methods) all.calls all.fresh;
        written = all.is;
        short = all.short;
        asking = all.new_is;
      }

  found_where : (q : Asking) → AreMethods outlines → AsksFor outlines line q → found ≡ Some q
  found_where q right asks =
      let methods = methods_among outlines in
      read_complete outlines right (nothing_of methods) line asks.pieces asks.calls (nothing_places methods) asks.each
      (calls_fresh methods asks.pieces asks.calls asks.each asks.apart) asks.written asks.short
      ∙ ap (λ r. Some r) (sym asks.asking)

  pub one_asking : (q other : Asking) → AreMethods outlines → AsksFor outlines line q → AsksFor outlines line other → other ≡ q
  one_asking q other right asks others =
      let same : ◌≡◌ {A = Option Asking} (Some other) (Some q) = sym (found_where other right others) ∙ found_where q right asks in
      cc

  none_asked : (q : Asking) → AreMethods outlines → found ≡ None → AsksFor outlines line q → ⊥
  none_asked q right none asks =
      let wrong : ◌≡◌ {A = Option Asking} (Some q) None = sym (found_where q right asks) ∙ none in
      absurd cc

  pub asking_decided : AreMethods outlines → ((q : Asking) × AsksFor outlines line q) ⊎ ((q : Asking) → AsksFor outlines line q → ⊥)
  asking_decided right = by found refl
    where
      by : (o : Option Asking) → found ≡ o → ((q : Asking) × AsksFor outlines line q) ⊎ ((q : Asking) → AsksFor outlines line q → ⊥)
      by (Some q) is = inl (q, asked_where q is)
      by None is = inr (λ q. none_asked q right is)

-- ---- designs

pub methods_right : (d : Design) (methods : List Element) → methods ≡ methods_in d.elements → IsTrue (list_all ports_fit methods)
methods_right d methods are = subst (λ ms. IsTrue (list_all ports_fit ms)) (sym are) (methods_fit d.elements (readable d))

module _ (d : Design) (bytes : List ℕ) (methods : List Element) (are : methods ≡ methods_in d.elements) (cleared : Asking) (none : cleared ≡ nothing_of (map outline methods)) where
  outlined : map outline methods ≡ methods_among (map outline d.elements)
  outlined = ap (λ ms. map outline ms) are ∙ sym (methods_outlined d.elements)

  pub nothing : cleared ≡ nothing_asked d.elements
  nothing = none ∙ ap (λ ms. nothing_of (map outline ms)) are ∙ nothing_outlined d.elements

  pub cleared_places : HasPlaces (map outline methods) cleared
  cleared_places = subst (HasPlaces (map outline methods)) (sym none) (nothing_places (map outline methods))

  -- what was read of nothing asked
  reading : found (map outline d.elements) bytes ≡ read (map outline methods) bytes cleared
  reading = sym (ap (λ os. read os bytes cleared) outlined ∙ ap (read (methods_among (map outline d.elements)) bytes) (none ∙ ap nothing_of outlined))

  pub asks : (q : Asking) → read (map outline methods) bytes cleared ≡ Some q → AsksFor (map outline d.elements) bytes q
  asks q is = asked_where (map outline d.elements) bytes q (reading ∙ is)

  pub only : (q r : Asking) → read (map outline methods) bytes cleared ≡ Some q → AsksFor (map outline d.elements) bytes r → r ≡ q
  only q r is others = one_asking (map outline d.elements) bytes q r (readable d) (asks q is) others

  pub bad : (r : Asking) → read (map outline methods) bytes cleared ≡ None → AsksFor (map outline d.elements) bytes r → ⊥
  bad r is = none_asked (map outline d.elements) bytes r (readable d) (reading ∙ is)

  pub cleared_fit : AskingFits d.elements cleared
  cleared_fit = nothing_fits d cleared nothing

  pub fits : (q : Asking) → read (map outline methods) bytes cleared ≡ Some q → AskingFits d.elements q
  fits q is = line_fits d.elements bytes q (readable d) (nothing_fits d (nothing_asked d.elements) refl) (asks q is)
