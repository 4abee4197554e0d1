-- The nodes of a method tell its last call so far, call site by call site.
use Rattle.std.proofs.Common.{◌≡◌, ◌+◌, ◌<◌, ◌∙◌, ◌&&◌, ◌||◌, ℕ, zero, suc, Bool, true, false, cond, List, [], ◌∷◌, ◌++◌, length, map, Option, Some, None, is_some, refl, sym, ap, subst, arith, append_assoc, append-nil}
use Rattle.std.specs.Prelude.{◌==◌, if◌then◌else◌, slice_get}
use Rattle.std.proofs.lemmas.Bool.{eqb-true, and_parts}
use Rattle.std.proofs.lemmas.List.{length-map, map-append}
use Rattle.std.proofs.lemmas.Option.{same_Some}
use Rattle.std.specs.Int.Bits.{and_zero_l}
use Rattle.bsv_bits.specs.Operators.{operate}
use Rattle.bsv_bits.specs.Words.{Bits, bit}
use Rattle.bsv_bits.specs.declared.operator.Operator.TheVariants.{And}
use Rattle.bsv_prim.specs.Signals.{is_one}
use Rattle.bsv_prim.specs.Table.{word_at}
use Rattle.bsv_design.specs.declared.element.Call.{Call as SiteCall}
use Rattle.bsv_design.specs.declared.kind.Kind.{Kind}
use Rattle.bsv_design.specs.design.Bodies.{at}
use Rattle.bsv_design.specs.design.Words as the_words
use Rattle.bsv_net.specs.declared.node.NetNode.{NetNode}
use Rattle.bsv_net.specs.declared.node.NetNode.TheVariants as net
use Rattle.bsv_net.specs.declared.node.Site.{Site as NetSite}
use Rattle.bsv_net.specs.declared.wires.MethodPort.{MethodPort}
use Rattle.bsv_net.specs.Equations.{Values, Satisfies}
use Rattle.bsv_net.specs.Placing.{add, both, either, node_at}
use Rattle.bsv_net.proofs.Gates.{added_means, both_means, either_means}
use Rattle.bsv_net.proofs.Grows.{Grows, grows_trans}
use Rattle.bsv_ports.specs.declared.call_sites.CallSite.{CallSite}
use Rattle.bsv_ports.specs.Ports.{PlacedSoFar, all_picked, at_call_site, at_call_sites, merged, site_in}
use Rattle.bsv_ports.specs.CallSites.{acts_in, call_sites_from}
use Rattle.bsv_ports.proofs.Scene.{TellsPort}
use Rattle.bsv_ports.proofs.Latest.{latest_made}
use Rattle.bsv_ports.proofs.PortGrowth.{all_picked_grows, at_call_sites_grows, merged_grows, call_site_of, call_site_of_other, with_site}

pub node_word : (V : ℕ → Bits) (ns : List ℕ) (k : ℕ) → k < length ns → V (node_at ns k) ≡ word_at (map V ns) k
node_word V [] k l = absurd (omega arith)
node_word V (n ∷ ns) zero l = refl
node_word V (n ∷ ns) (suc k) l = node_word V ns k (omega arith)

-- what there is of the nodes of a method tells its last call so far
abbrev pub TellsSoFar : Values → ℕ → Option (List Bits) → Option MethodPort → Type 0
TellsSoFar V arity last None = last ≡ None
TellsSoFar V arity last (Some p) = TellsPort V arity last p × (length p.args ≡ arity)

picked_first : (V : Values) (c : Bool) (x y : ℕ) (xs ys : List ℕ) → map V (cond c (x ∷ xs) (y ∷ ys)) ≡ V (cond c x y) ∷ map V (cond c xs ys)
picked_first V true x y xs ys = refl
picked_first V false x y xs ys = refl

pick_bit : (c : Bool) (v w : Bits) → (if is_one (bit c) then v else w) ≡ cond c v w
pick_bit true v w = refl
pick_bit false v w = refl

of_cond : (V : Values) (c : Bool) (x y : ℕ) → cond c (V x) (V y) ≡ V (cond c x y)
of_cond V true x y = refl
of_cond V false x y = refl

some_or : (b : Bool) (words : List Bits) (last : Option (List Bits)) → (is_some last || b) ≡ is_some (if b then Some words else last)
some_or true words (Some w) = refl
some_or true words None = refl
some_or false words (Some w) = refl
some_or false words None = refl

module _ (inputs registers : List Bits) (V : Values) (full : List NetNode) (widths : List ℕ) (s : Satisfies inputs registers V full widths) where
  -- ---- arguments

  pick_means : (ns : List NetNode) (live x y : ℕ) (c : Bool) → V live ≡ bit c → Grows (add ns (net.Pick live x y)).nodes full → V (add ns (net.Pick live x y)).place ≡ V (cond c x y)
  pick_means ns live x y c e g =
      added_means inputs registers V full widths s ns (net.Pick live x y) g
      ∙ ap (λ (w : Bits). if is_one w then V x else V y) e ∙ pick_bit c (V x) (V y) ∙ of_cond V c x y

  all_picked_words : (ns : List NetNode) (live : ℕ) (so_far xs ys : List ℕ) (c : Bool) → V live ≡ bit c → length xs ≡ length ys
      → Grows (all_picked ns live so_far xs ys).nodes full → map V (all_picked ns live so_far xs ys).places ≡ map V so_far ++ map V (cond c xs ys)
  unfolding all_picked
  all_picked_words ns live so_far [] [] true e same g = sym (append-nil (map V so_far))
  all_picked_words ns live so_far [] [] false e same g = sym (append-nil (map V so_far))
  all_picked_words ns live so_far [] (y ∷ ys) c e same g = absurd (omega arith)
  all_picked_words ns live so_far (x ∷ xs) [] c e same g = absurd (omega arith)
  all_picked_words ns live so_far (x ∷ xs) (y ∷ ys) c e same g =
      let n = net.Pick live x y in
      let before = grows_trans (all_picked_grows (add ns n).nodes live (so_far ++ (add ns n).place ∷ []) xs ys) g in
      all_picked_words (add ns n).nodes live (so_far ++ (add ns n).place ∷ []) xs ys c e (omega arith) g
      ∙ ap (λ (ws : List Bits). ws ++ map V (cond c xs ys)) (map-append V so_far ((add ns n).place ∷ []))
      ∙ append_assoc (map V so_far) (V (add ns n).place ∷ []) (map V (cond c xs ys))
      ∙ ap (λ (w : Bits). map V so_far ++ (w ∷ map V (cond c xs ys))) (pick_means ns live x y c e before)
      ∙ ap (λ (ws : List Bits). map V so_far ++ ws) (sym (picked_first V c x y xs ys))

  -- ---- one more call

  module _ (arity : ℕ) where
    abbrev Told : Option (List Bits) → Option MethodPort → Type 0
    Told last o = TellsSoFar V arity last o

    abbrev HasWords : List ℕ → List Bits → Type 0
    HasWords ns ws = (n : ℕ) → n < arity → V (node_at ns n) ≡ word_at ws n

    same_words : (xs ys : List ℕ) → map V xs ≡ map V ys → length ys ≡ arity → HasWords xs (map V ys)
    same_words xs ys e long n l =
        let many : length xs ≡ arity = sym (length-map xs V) ∙ (ap length e ∙ (length-map ys V ∙ long)) in
        node_word V xs n (omega (arith, many, l)) ∙ ap (λ (ws : List Bits). word_at ws n) e

    words_of : (ys : List ℕ) → length ys ≡ arity → HasWords ys (map V ys)
    words_of ys long n l = node_word V ys n (omega (arith, long, l))

    merged_args : (xs ys places : List ℕ) (b : Bool) (words : List Bits) (last : Option (List Bits)) → length xs ≡ arity → length ys ≡ arity
        → map V places ≡ map V (cond b xs ys) → (b ≡ true → HasWords xs words) → ((args : List Bits) → last ≡ Some args → HasWords ys args)
        → (args : List Bits) → (if b then Some words else last) ≡ Some args → HasWords places args
    merged_args xs ys places true words last long_x long_y e first second args is n l =
        same_words places xs e long_x n l ∙ sym (words_of xs long_x n l) ∙ first refl n l ∙ ap (λ (ws : List Bits). word_at ws n) (same_Some words args is)
    merged_args xs ys places false words last long_x long_y e first second args is n l =
        same_words places ys e long_y n l ∙ sym (words_of ys long_y n l) ∙ second args is n l

    merged_told : (ns : List NetNode) (o : Option MethodPort) (live : ℕ) (args : List ℕ) (b : Bool) (words : List Bits) (last : Option (List Bits))
        → Told last o → V live ≡ bit b → length args ≡ arity → (b ≡ true → HasWords args words) → Grows (merged ns o live args).nodes full
        → Told (if b then Some words else last) (Some (merged ns o live args).port)
    merged_told ns None live args true words last told e long first g = (
      record {
        called = e;
        args = λ list is n l. first refl n l ∙ ap (λ (ws : List Bits). word_at ws n) (same_Some words list is);
      },
      long,
    )
    merged_told ns None live args false words last told e long first g = (
      record {
        called = e ∙ ap (λ (x : Option (List Bits)). bit (is_some x)) (sym told);
        args = λ list is n l. absurd (let x : None ≡ Some list = sym told ∙ is in let h : ⊥ = cc in h);
      },
      long,
    )
    merged_told ns (Some p) live args b words last told e long first g =
        let q = either ns p.called live in
        let r = all_picked q.nodes live [] args p.args in
        let before = grows_trans (all_picked_grows q.nodes live [] args p.args) g in
        let same : map V r.places ≡ map V (cond b args p.args) = all_picked_words q.nodes live [] args p.args b e (long ∙ sym told.1) g in (
          record {
            called =
                either_means inputs registers V full widths s ns p.called live (is_some last) b before told.0.called e
                ∙ ap bit (some_or b words last);
            args = merged_args args p.args r.places b words last long told.1 same first told.0.args;
          },
          sym (length-map r.places V) ∙ (ap length same ∙ (length-map (cond b args p.args) V ∙ picked_long b)),
        )
      where
        picked_long : (c : Bool) → length (cond c args p.args) ≡ arity
        picked_long true = long
        picked_long false = told.1

    -- ---- a call at a call site

    -- what is known of a site: whether its element fires, whether it is taken there, and its arguments where it is
    pub record TellsCall (firing : List ℕ) (f : ℕ) (fires taken : Bool) (words : List Bits) (x : NetSite) : Type 0 where
      pub fire : V (node_at firing f) ≡ bit fires
      pub taken_is : fires ≡ true → V x.taken ≡ bit taken
      pub args : fires ≡ true → taken ≡ true → HasWords x.args words
      pub long : length x.args ≡ arity

    live_bit : (ns : List NetNode) (a b : ℕ) (p q : Bool) → V a ≡ bit p → (p ≡ true → V b ≡ bit q) → Grows (both ns a b).nodes full → V (both ns a b).place ≡ bit (p && q)
    live_bit ns a b true q e f g = both_means inputs registers V full widths s ns a b true q g e (f refl)
    live_bit ns a b false q e f g =
        added_means inputs registers V full widths s ns (net.Two And a b) g
        ∙ ap (λ (w : Bits). operate And w (V b)) e
        ∙ ap (λ (n : ℕ). record { width = 1; value = n }) (and_zero_l (V b).value)

    with_site_told : (firing : List ℕ) (ns : List NetNode) (o : Option MethodPort) (f : ℕ) (x : NetSite) (fires taken : Bool) (words : List Bits) (last : Option (List Bits))
        → TellsCall firing f fires taken words x → Told last o → Grows (with_site firing ns o f (Some x)).nodes full
        → Told (if fires && taken then Some words else last) (with_site firing ns o f (Some x)).port
    with_site_told firing ns o f x fires taken words last call told g =
        let q = both ns (node_at firing f) x.taken in
        let before = grows_trans (merged_grows q.nodes o q.place x.args) g in
        merged_told q.nodes o q.place x.args (fires && taken) words last told (live_bit ns (node_at firing f) x.taken fires taken call.fire call.taken_is before) call.long
        (λ e. let ps = and_parts fires taken e in call.args ps.0 ps.1) g

    -- ---- the calls of an element

    module _ (firing : List ℕ) (sites : List (List NetSite)) (ks : List Kind) (i m f : ℕ) (ws : List Bits) (fires : Bool) where
      unfoldable pub CallIsTold : SiteCall → ℕ → Type 0
      CallIsTold c n =
          c.part ≡ i → c.method ≡ m
          → (x : NetSite) × (site_in (slice_get sites f) n ≡ Some x) × TellsCall firing f fires (the_words.is_one (at ws c.taken)) (map (at ws) c.args) x

      never : (b : Bool) → (b && false) ≡ false
      never true = refl
      never false = refl

      abbrev made : Option (List Bits) → List SiteCall → Option (List Bits)
      made last cs = latest_made ks i m ws fires last cs

      abbrev AllTold : List SiteCall → List CallSite → Type 0
      AllTold cs ss =
          (ns : List NetNode) (o : Option MethodPort) (last : Option (List Bits)) → Told last o → Grows (at_call_sites firing sites m ns o ss).nodes full
          → Told (made last cs) (at_call_sites firing sites m ns o ss).port

      call_site_told : (c : SiteCall) (n : ℕ) (cs : List SiteCall) (ss : List CallSite) → AllTold cs ss → (a q : Bool) → ((c.part == i) && acts_in (slice_get ks c.part) c.method) ≡ a → (c.method == m) ≡ q
          → CallIsTold c n
          → (ns : List NetNode) (o : Option MethodPort) (last : Option (List Bits)) → Told last o
          → Grows (at_call_sites firing sites m ns o (cond a (record { element = f; call = n; method = c.method } ∷ ss) ss)).nodes full
          → Told (made (if fires && (a && (q && the_words.is_one (at ws c.taken))) then Some (map (at ws) c.args) else last) cs)
          (at_call_sites firing sites m ns o (cond a (record { element = f; call = n; method = c.method } ∷ ss) ss)).port
      unfolding at_call_sites CallIsTold
      call_site_told c n cs ss rest false q e h call ns o last told g =
          subst (λ (b : Bool). Told (made (if b then Some (map (at ws) c.args) else last) cs) (at_call_sites firing sites m ns o ss).port) (sym (never fires)) (rest ns o last told g)
      call_site_told c n cs ss rest true false e h call ns o last told g =
          let here : CallSite = record { element = f; call = n; method = c.method } in
          let there = call_site_of_other firing sites m ns o here h in
          subst (λ (p : PlacedSoFar). Told (made (if fires && false then Some (map (at ws) c.args) else last) cs) (at_call_sites firing sites m p.nodes p.port ss).port) (sym there)
          (subst (λ (b : Bool). Told (made (if b then Some (map (at ws) c.args) else last) cs) (at_call_sites firing sites m ns o ss).port) (sym (never fires))
          (rest ns o last told (subst (λ (p : PlacedSoFar). Grows (at_call_sites firing sites m p.nodes p.port ss).nodes full) there g)))
      call_site_told c n cs ss rest true true e h call ns o last told g =
          let here : CallSite = record { element = f; call = n; method = c.method } in
          let both = and_parts (c.part == i) (acts_in (slice_get ks c.part) c.method) e in
          let site = call (eqb-true c.part i both.0) (eqb-true c.method m h) in
          let there : at_call_site firing sites m ns o here ≡ with_site firing ns o f (Some site.0) = call_site_of firing sites m ns o here h ∙ ap (with_site firing ns o f) site.1 in
          let g' = subst (λ (p : PlacedSoFar). Grows (at_call_sites firing sites m p.nodes p.port ss).nodes full) there g in
          let before = grows_trans (at_call_sites_grows firing sites m (with_site firing ns o f (Some site.0)).nodes (with_site firing ns o f (Some site.0)).port ss) g' in
          let now = with_site_told firing ns o f site.0 fires (the_words.is_one (at ws c.taken)) (map (at ws) c.args) last site.2 told before in
          subst (λ (p : PlacedSoFar). Told (made (if fires && the_words.is_one (at ws c.taken) then Some (map (at ws) c.args) else last) cs) (at_call_sites firing sites m p.nodes p.port ss).port) (sym there)
          (rest (with_site firing ns o f (Some site.0)).nodes (with_site firing ns o f (Some site.0)).port (if fires && the_words.is_one (at ws c.taken) then Some (map (at ws) c.args) else last) now g')

      pub calls_told : (cs : List SiteCall) (n : ℕ) → ((j : ℕ) (c : SiteCall) → slice_get cs j ≡ Some c → CallIsTold c (n + j))
          → (ns : List NetNode) (o : Option MethodPort) (last : Option (List Bits)) → Told last o → Grows (at_call_sites firing sites m ns o (call_sites_from ks i f n cs)).nodes full
          → Told (latest_made ks i m ws fires last cs) (at_call_sites firing sites m ns o (call_sites_from ks i f n cs)).port
      unfolding at_call_sites call_sites_from
      calls_told [] n each ns o last told g = told
      calls_told (c ∷ cs) n each ns o last told g =
          call_site_told c n cs (call_sites_from ks i f (n + 1) cs)
          (calls_told cs (n + 1) (λ j d e. subst (CallIsTold d) (omega arith) (each (suc j) d e)))
          ((c.part == i) && acts_in (slice_get ks c.part) c.method) (c.method == m) refl refl
          (subst (CallIsTold c) (omega arith) (each zero c refl)) ns o last told g
