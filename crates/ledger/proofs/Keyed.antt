-- Lists of keys in their order, and rows made from them. Assumes nothing.
use Rattle.std.proofs.Common.{◌≡◌, ℕ, ◌+◌, ◌≤◌, true, false, cond, List, [], ◌∷◌, map, ℤ, pos, ◌+ℤ◌, Some, None, sym, refl, ap, ◌∙◌, subst, arith}
use Rattle.std.proofs.lemmas.Int.{ints}
use Rattle.std.proofs.lemmas.Simd.{map-map}
use Rattle.std.proofs.Math.IntN.{+ℤ_assoc, +ℤ_comm, +ℤ_idr}
use Rattle.tables.specs.Rules.{Rules, TotalOrder, same, look, with_row, without, exchanged}
use Rattle.ledger.specs.Keys.{listed, listing, unlisting, Ahead, Ordered, at_key, total, net}

pub total_same : {A : Type 0} (f g : A → ℕ) → ((x : A) → g x ≡ f x) → (xs : List A) → total g xs ≡ total f xs
total_same f g e xs = λ i. total (λ x. e x i) xs

pub net_same : {A : Type 0} (f g : A → ℤ) → ((x : A) → g x ≡ f x) → (xs : List A) → net g xs ≡ net f xs
net_same f g e xs = λ i. net (λ x. e x i) xs

pub net_sum : {A : Type 0} (f g : A → ℤ) (xs : List A) → net (λ x. f x +ℤ g x) xs ≡ net f xs +ℤ net g xs
net_sum f g [] = refl
net_sum f g (x ∷ xs) = let ih = net_sum f g xs in omega (arith, ints)

pub net_zero : {A : Type 0} (xs : List A) → net (λ x. pos 0) xs ≡ pos 0
net_zero [] = refl
net_zero (x ∷ xs) = let ih = net_zero xs in omega (arith, ints)

pub map_same : {A B : Type 0} (f g : A → B) → ((x : A) → g x ≡ f x) → (xs : List A) → map g xs ≡ map f xs
map_same f g e xs = λ i. map (λ x. e x i) xs

pub map_map : {A B C : Type 0} (f : A → B) (g : B → C) (h : A → C) → ((x : A) → h x ≡ g (f x)) → (xs : List A) → map g (map f xs) ≡ map h xs
map_map f g h e xs = map-map g f xs ∙ sym (map_same (λ x. g (f x)) h e xs)

module _ {R K : Type 0} (rules : Rules R K) (order : TotalOrder rules.less) where
  pub same_is : (a b : K) → same rules a b ≡ true → a ≡ b
  same_is a b t = grind (arith, order.total)

  -- a key that is listed is none that is not
  pub listed_apart : (j k : K) (ks : List K) → listed rules j ks ≡ true → listed rules k ks ≡ false → same rules j k ≡ false
  listed_apart j k ks l u = grind (arith, same_is j k)

  -- a key that comes before all of them is not among them
  pub ahead_unlisted : (k : K) (ks : List K) → Ahead rules k ks → listed rules k ks ≡ false
  ahead_unlisted k [] a = refl
  ahead_unlisted k (j ∷ js) a = grind (arith, ahead_unlisted k js a.1)

  pub ahead_other : (k j : K) (ks : List K) → Ahead rules k ks → listed rules j ks ≡ true → same rules k j ≡ false
  ahead_other k j ks a l = grind (arith, same_is k j, ahead_unlisted k ks a)

  -- and so is one that comes before it
  pub ahead_less : (i k : K) (ks : List K) → rules.less i k ≡ true → Ahead rules k ks → Ahead rules i ks
  ahead_less i k [] l a = tt
  ahead_less i k (j ∷ js) l a = (order.transitive i k j l a.0, ahead_less i k js l a.1)

  ahead_listing : (i k : K) (ks : List K) → rules.less i k ≡ true → Ahead rules i ks → Ahead rules i (listing rules k ks)
  ahead_listing i k [] l a = (l, tt)
  ahead_listing i k (j ∷ js) l a = grind (arith, ahead_listing i k js l a.1)

  pub ordered_listing : (k : K) (ks : List K) → Ordered rules ks → Ordered rules (listing rules k ks)
  ordered_listing k [] o = (tt, tt)
  ordered_listing k (j ∷ js) o = grind (arith, order.total j k, ahead_less k j js, ahead_listing j k js, ordered_listing k js o.1)

  ahead_unlisting : (i k : K) (ks : List K) → Ahead rules i ks → Ahead rules i (unlisting rules k ks)
  ahead_unlisting i k [] a = tt
  ahead_unlisting i k (j ∷ js) a = grind (arith, ahead_unlisting i k js a.1)

  pub ordered_unlisting : (k : K) (ks : List K) → Ordered rules ks → Ordered rules (unlisting rules k ks)
  ordered_unlisting k [] o = tt
  ordered_unlisting k (j ∷ js) o = grind (arith, ahead_unlisting j k js o.0, ordered_unlisting k js o.1)

  pub listed_listing : (j k : K) (ks : List K) → listed rules k (listing rules j ks) ≡ cond (same rules j k) true (listed rules k ks)
  listed_listing j k [] = refl
  listed_listing j k (i ∷ is) = grind (arith, listed_listing j k is, same_is i j)

  pub listed_unlisting : (j k : K) (ks : List K) → listed rules k (unlisting rules j ks) ≡ true → listed rules k ks ≡ true
  listed_unlisting j k [] l = l
  listed_unlisting j k (i ∷ is) l = grind (arith, listed_unlisting j k is)

  pub listed_same : (j k : K) (ks : List K) → same rules j k ≡ true → listed rules j ks ≡ listed rules k ks
  listed_same j k ks e = rw (same_is j k e)

  -- what is listed no more leaves the other keys as they were
  pub listed_other : (j k : K) (ks : List K) → same rules j k ≡ false → listed rules k (unlisting rules j ks) ≡ listed rules k ks
  listed_other j k [] ne = refl
  listed_other j k (i ∷ is) ne = grind (arith, same_is i j, listed_other j k is)

  -- a key that is listed is not listed again
  pub listing_listed : (k : K) (ks : List K) → Ordered rules ks → listed rules k ks ≡ true → listing rules k ks ≡ ks
  listing_listed k [] o l = cc
  listing_listed k (j ∷ js) o l = grind (arith, same_is j k, order.irreflexive k, ahead_unlisted k js, ahead_less k j js, listing_listed k js o.1)

  -- a key that comes before the first is not listed
  unlisted_before : (k j : K) (js : List K) → Ordered rules (j ∷ js) → rules.less k j ≡ true → listed rules k (j ∷ js) ≡ false
  unlisted_before k j js o e = grind (arith, ahead_unlisted k js (ahead_less k j js e o.0))

  -- what comes after a key that is this one
  unlisted_after : (k j : K) (js : List K) → Ordered rules (j ∷ js) → same rules j k ≡ true → listed rules k js ≡ false
  unlisted_after k j js o t = subst (λ (q : K). listed rules q js ≡ false) (same_is j k t) (ahead_unlisted j js o.0)

  pub listed_none : (k : K) (ks : List K) → Ordered rules ks → listed rules k (unlisting rules k ks) ≡ false
  listed_none k [] o = refl
  listed_none k (i ∷ is) o = grind (arith, unlisted_after k i is o, listed_none k is o.1)

  -- rows made from keys
  module _ (r : K → R) (keyed : (k : K) → rules.key (r k) ≡ k) where
    pub look_made : (k : K) (ks : List K) → look rules (map r ks) k ≡ cond (listed rules k ks) (Some (r k)) None
    look_made k [] = refl
    look_made k (j ∷ js) = grind (arith, keyed j, same_is j k, look_made k js)

    pub without_made : (k : K) (ks : List K) → without rules k (map r ks) ≡ map r (unlisting rules k ks)
    without_made k [] = refl
    without_made k (j ∷ js) = grind (arith, keyed j, without_made k js)

  -- rows made anew, where only the one with the key k differs
  module _ (r s : K → R) (keyed : (k : K) → rules.key (r k) ≡ k) (k : K) (others : (j : K) → same rules j k ≡ false → s j ≡ r j) where
    pub made_others : (ks : List K) → listed rules k ks ≡ false → map s ks ≡ map r ks
    made_others [] u = refl
    made_others (j ∷ js) u = grind (arith, others j, made_others js)

    pub exchanged_rows : (new : R) → new ≡ s k → rules.key (s k) ≡ k → (ks : List K) → Ordered rules ks → exchanged rules new (map r ks) ≡ map s ks
    exchanged_rows new e named [] o = refl
    exchanged_rows new e named (j ∷ js) o = grind (arith, keyed j, ap rules.key e, others j, same_is j k, made_others js, unlisted_after k j js o, exchanged_rows new e named js o.1)

    pub with_row_made : (new : R) → new ≡ s k → rules.key new ≡ k → (ks : List K) → listed rules k ks ≡ false → Ordered rules ks → with_row rules new (map r ks) ≡ map s (listing rules k ks)
    with_row_made new e named [] u o = cc
    with_row_made new e named (j ∷ js) u o = grind (arith, keyed j, others j, made_others js, with_row_made new e named js)

    -- a row changed, and made first where it is missing
    pub at_key_made : (blank : K → R) (f : R → R) → s k ≡ f (r k) → (ks : List K) → (listed rules k ks ≡ false → r k ≡ blank k) → Ordered rules ks → at_key rules blank k f (map r ks) ≡ map s (listing rules k ks)
    at_key_made blank f e [] bare o = let b = bare refl in cc
    at_key_made blank f e (j ∷ js) bare o =
        let ih = λ (t : same rules j k ≡ false). at_key_made blank f e js (λ (u : listed rules k js ≡ false). bare (rw t u)) o.1 in
        grind (arith, keyed j, others j, same_is j k, made_others js, made_others (j ∷ js), unlisted_before k j js o, unlisted_after k j js o, ih, bare)

  -- totals over keys, where only that of the key k differs
  module _ (f g : K → ℕ) (k : K) (others : (j : K) → same rules j k ≡ false → g j ≡ f j) where
    pub total_others : (ks : List K) → listed rules k ks ≡ false → total g ks ≡ total f ks
    total_others [] u = refl
    total_others (j ∷ js) u = grind (arith, others j, total_others js)

    pub total_listing : (ks : List K) → listed rules k ks ≡ false → total g (listing rules k ks) ≡ total f ks + g k
    total_listing [] u = omega arith
    total_listing (j ∷ js) u = grind (arith, others j, total_others js, total_listing js)

    pub total_changed : (ks : List K) → Ordered rules ks → listed rules k ks ≡ true → total g ks + f k ≡ total f ks + g k
    total_changed [] o u = cc
    total_changed (j ∷ js) o u = grind (arith, same_is j k, others j, total_others js, unlisted_after k j js o, total_changed js o.1)

  pub total_unlisting : (f : K → ℕ) (k : K) (ks : List K) → listed rules k ks ≡ true → total f (unlisting rules k ks) + f k ≡ total f ks
  total_unlisting f k [] u = cc
  total_unlisting f k (j ∷ js) u = grind (arith, same_is j k, total_unlisting f k js)

  -- one of them is at most all
  pub total_one : (f : K → ℕ) (k : K) (ks : List K) → listed rules k ks ≡ true → f k ≤ total f ks
  total_one f k ks u = omega (arith, total_unlisting f k ks u)

  -- a key for which nothing counts
  pub total_grows : (f : K → ℕ) (k : K) (ks : List K) → Ordered rules ks → (listed rules k ks ≡ false → f k ≡ 0) → total f (listing rules k ks) ≡ total f ks
  total_grows f k ks o bare = grind (arith, listing_listed k ks o, total_listing f f k (λ j _. refl) ks)

  -- what holds of each key that is listed holds of what is made from them
  pub map_listed : {A : Type 0} (f g : K → A) (ks : List K) → ((k : K) → listed rules k ks ≡ true → g k ≡ f k) → map g ks ≡ map f ks
  map_listed f g [] e = refl
  map_listed f g (j ∷ js) e = let ih = map_listed f g js (λ k l. e k (grind arith)) in grind (arith, e j, order.irreflexive j)

  pub total_listed : (f g : K → ℕ) (ks : List K) → ((k : K) → listed rules k ks ≡ true → g k ≡ f k) → total g ks ≡ total f ks
  total_listed f g [] e = refl
  total_listed f g (j ∷ js) e = let ih = total_listed f g js (λ k l. e k (grind arith)) in grind (arith, e j, order.irreflexive j)

  pub net_listed : (f g : K → ℤ) (ks : List K) → ((k : K) → listed rules k ks ≡ true → g k ≡ f k) → net g ks ≡ net f ks
  net_listed f g [] e = refl
  net_listed f g (j ∷ js) e = let ih = net_listed f g js (λ k l. e k (grind arith)) in grind (arith, e j, order.irreflexive j)

  -- none that is listed counts
  pub total_zero : (f : K → ℕ) (ks : List K) → ((j : K) → listed rules j ks ≡ true → f j ≡ 0) → total f ks ≡ 0
  total_zero f [] z = refl
  total_zero f (j ∷ js) z = let ih = total_zero f js (λ i l. z i (grind arith)) in grind (arith, z j, order.irreflexive j)

  -- nets over keys, where only that of the key k differs
  module _ (f g : K → ℤ) (k : K) (others : (j : K) → same rules j k ≡ false → g j ≡ f j) where
    pub net_others : (ks : List K) → listed rules k ks ≡ false → net g ks ≡ net f ks
    net_others [] u = refl
    net_others (j ∷ js) u = grind (arith, others j, net_others js)

    net_joined : (ks : List K) → listed rules k ks ≡ false → net g (listing rules k ks) ≡ net f ks +ℤ g k
    net_joined [] u = omega (arith, ints)
    net_joined (j ∷ js) u = grind (arith, +ℤ_comm (g k) (net g (j ∷ js)), +ℤ_assoc (g j) (net f js) (g k), others j, net_others js, net_joined js)

    net_changed : (ks : List K) → Ordered rules ks → listed rules k ks ≡ true → net g ks +ℤ f k ≡ net f ks +ℤ g k
    net_changed [] o u = cc
    net_changed (j ∷ js) o u = grind (arith, +ℤ_assoc (g j) (net g js) (f k), +ℤ_assoc (f j) (net f js) (g k), +ℤ_comm (net g js) (f k), +ℤ_comm (g j) (f k +ℤ net g js), same_is j k, others j, net_others js, unlisted_after k j js o, net_changed js o.1)

    pub net_at : (ks : List K) → Ordered rules ks → (listed rules k ks ≡ false → f k ≡ pos 0) → net g (listing rules k ks) +ℤ f k ≡ net f ks +ℤ g k
    net_at ks o bare = grind (arith, +ℤ_idr (net f ks +ℤ g k), bare, listing_listed k ks o, net_joined ks, net_changed ks o)

  -- a key for which nothing counts
  pub net_listing : (f : K → ℤ) (k : K) (ks : List K) → Ordered rules ks → (listed rules k ks ≡ false → f k ≡ pos 0) → net f (listing rules k ks) ≡ net f ks
  net_listing f k ks o bare = let e = net_at f f k (λ j _. refl) ks o bare in omega (arith, ints)
