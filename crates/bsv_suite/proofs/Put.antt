-- The pieces of a section's text are its text.
use Rattle.std.proofs.Common.{◌≡◌, ◌∙◌, ℕ, Bool, true, false, List, [], ◌++◌, codes, decimal, refl, sym}
use Rattle.std.proofs.lemmas.Bool.{eqb-true}
use Rattle.std.specs.Prelude.{IsTrue, ◌==◌, if◌then◌else◌}
use Rattle.bsv_trace.specs.Texts.{line_feed}
use Rattle.bsv_suite.specs.declared.sections.Section.{Section}
use Rattle.bsv_suite.specs.Texts.{bad_line_text, end_text, section_text, told_of}

end_by : (b : Bool) (number : ℕ) → (IsTrue b → ⊥) → (if b then [] else bad_line_text number) ≡ bad_line_text number
end_by true number other = absurd (other refl)
end_by false number other = refl

end_told : (number : ℕ) → (number ≡ 0 → ⊥) → end_text number ≡ bad_line_text number
end_told number some = end_by (number == 0) number (λ h. some (eqb-true number 0 h))

module _ (x : Section) (name text : List ℕ) (named : name ≡ x.name) (told : text ≡ x.text.items) where
  pub whole_text : x.bad ≡ 0 → codes "trace " ++ (name ++ (line_feed ++ (text ++ []))) ≡ section_text (told_of x)
  unfolding section_text
  whole_text none = λ i. codes "trace " ++ (named i ++ (line_feed ++ (told i ++ end_text (sym none i))))

  pub cut_text : (digits : List ℕ) → digits ≡ decimal x.bad → (x.bad ≡ 0 → ⊥)
      → codes "trace " ++ (name ++ (line_feed ++ (text ++ (codes "trace line " ++ (digits ++ line_feed))))) ≡ section_text (told_of x)
  unfolding section_text
  cut_text digits is some =
      (λ i. codes "trace " ++ (named i ++ (line_feed ++ (told i ++ (codes "trace line " ++ (is i ++ line_feed))))))
      ∙ (λ i. codes "trace " ++ (x.name ++ (line_feed ++ (x.text.items ++ sym (end_told x.bad some) i))))
