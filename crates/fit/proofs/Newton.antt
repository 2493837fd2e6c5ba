-- How a + b·x + c·x² goes from cell to cell, in whole numbers times u², where u is one: by its differences, as Newton's form has it. `t`, `s` and `κ` are what a
-- rounded product, a rounded quotient and a slope leave.
use mathlib.Core.Path.{◌≡◌}
use lib.IntN.{ℤ, ◌+ℤ◌, ◌-ℤ◌, ◌*ℤ◌, *ℤ_comm}
use Rattle.whole.proofs.Parts.{ints, add_parts, sub_parts}
use Rattle.whole.proofs.Ring.{*ℤ-assoc, *ℤ-distribˡ, *ℤ-distribʳ, *ℤ-subʳ, *ℤ-swap}

-- from c inward
unfoldable pub value : ℤ → ℤ → ℤ → ℤ → ℤ → ℤ
value u a b c x = a *ℤ (u *ℤ u) +ℤ x *ℤ (b *ℤ u +ℤ x *ℤ c)

-- its slope between two cells whose x have the sum y
unfoldable pub rise : ℤ → ℤ → ℤ → ℤ → ℤ
rise u b c y = b *ℤ u +ℤ y *ℤ c

-- ---- the first cell
-- b x is f u + t₁, c x is h u + t₂, h x is k u + t₃, and a is q - f - k
pub at_first : (u b c q x f h k t₁ t₂ t₃ : ℤ) → b *ℤ x ≡ f *ℤ u +ℤ t₁ → c *ℤ x ≡ h *ℤ u +ℤ t₂ → h *ℤ x ≡ k *ℤ u +ℤ t₃ → value u (q -ℤ f -ℤ k) b c x ≡ q *ℤ (u *ℤ u) +ℤ ((t₁ +ℤ t₃) *ℤ u +ℤ x *ℤ t₂)
unfolding value
at_first u b c q x f h k t₁ t₂ t₃ e₁ e₂ e₃ =
    let U = u *ℤ u in
    let linear : x *ℤ (b *ℤ u) ≡ f *ℤ U +ℤ t₁ *ℤ u = cc (*ℤ_comm x (b *ℤ u), *ℤ-swap b u x, e₁, *ℤ-distribʳ (f *ℤ u) t₁ u, *ℤ-assoc f u u) in
    let inner : x *ℤ (h *ℤ u) ≡ k *ℤ U +ℤ t₃ *ℤ u = cc (*ℤ_comm x (h *ℤ u), *ℤ-swap h u x, e₃, *ℤ-distribʳ (k *ℤ u) t₃ u, *ℤ-assoc k u u) in
    let square : x *ℤ (x *ℤ c) ≡ x *ℤ (h *ℤ u) +ℤ x *ℤ t₂ = cc (*ℤ_comm x c, e₂, *ℤ-distribˡ x (h *ℤ u) t₂) in
    omega (
      ints,
      linear,
      inner,
      square,
      *ℤ-subʳ (q -ℤ f) k U,
      *ℤ-subʳ q f U,
      *ℤ-distribˡ x (b *ℤ u) (x *ℤ c),
      *ℤ-distribʳ t₁ t₃ u,
      sub_parts ((q -ℤ f) *ℤ U) (k *ℤ U),
      sub_parts (q *ℤ U) (f *ℤ U),
      add_parts (f *ℤ U) (t₁ *ℤ u),
      add_parts (k *ℤ U) (t₃ *ℤ u),
      add_parts (x *ℤ (h *ℤ u)) (x *ℤ t₂),
      add_parts (x *ℤ (b *ℤ u)) (x *ℤ (x *ℤ c)),
      add_parts ((q -ℤ f -ℤ k) *ℤ U) (x *ℤ (b *ℤ u +ℤ x *ℤ c)),
      add_parts (t₁ *ℤ u) (t₃ *ℤ u),
      add_parts ((t₁ +ℤ t₃) *ℤ u) (x *ℤ t₂),
      add_parts (q *ℤ U) ((t₁ +ℤ t₃) *ℤ u +ℤ x *ℤ t₂),
    )

-- ---- the slopes
-- c y is f u + t, and b is r - f
pub first_rise : (u c r y f t : ℤ) → c *ℤ y ≡ f *ℤ u +ℤ t → rise u (r -ℤ f) c y ≡ r *ℤ u +ℤ t
unfolding rise
first_rise u c r y f t e =
    omega (
      ints,
      e,
      *ℤ_comm y c,
      *ℤ-subʳ r f u,
      sub_parts (r *ℤ u) (f *ℤ u),
      add_parts (f *ℤ u) t,
      add_parts ((r -ℤ f) *ℤ u) (y *ℤ c),
      add_parts (r *ℤ u) t,
    )

-- (r' - r) u is c G + s, and y' is y + G
pub next_rise : (u b c r r' y y' G κ s : ℤ) → y' ≡ y +ℤ G → (r' -ℤ r) *ℤ u ≡ c *ℤ G +ℤ s → rise u b c y ≡ r *ℤ u +ℤ κ → rise u b c y' ≡ r' *ℤ u +ℤ (κ -ℤ s)
unfolding rise
next_rise u b c r r' y y' G κ s g e h =
    let further : y' *ℤ c ≡ y *ℤ c +ℤ c *ℤ G = cc (g, *ℤ-distribʳ y G c, *ℤ_comm G c) in
    omega (
      ints,
      e,
      h,
      further,
      *ℤ-subʳ r' r u,
      sub_parts (r' *ℤ u) (r *ℤ u),
      add_parts (c *ℤ G) s,
      add_parts (y *ℤ c) (c *ℤ G),
      add_parts (b *ℤ u) (y *ℤ c),
      add_parts (b *ℤ u) (y' *ℤ c),
      add_parts (r *ℤ u) κ,
      sub_parts κ s,
      add_parts (r' *ℤ u) (κ -ℤ s),
    )

-- ---- from cell to cell
step : (u a b c x x' : ℤ) → value u a b c x' ≡ value u a b c x +ℤ (x' -ℤ x) *ℤ rise u b c (x +ℤ x')
unfolding value rise
step u a b c x x' =
    let A = a *ℤ (u *ℤ u) in
    let B = b *ℤ u in
    let y = (x +ℤ x') *ℤ c in
    let both : (z : ℤ) → z *ℤ y ≡ z *ℤ (x *ℤ c) +ℤ z *ℤ (x' *ℤ c) = λ z. cc (*ℤ-distribʳ x x' c, *ℤ-distribˡ z (x *ℤ c) (x' *ℤ c)) in
    let cross : x' *ℤ (x *ℤ c) ≡ x *ℤ (x' *ℤ c) = cc (*ℤ-assoc x' x c, *ℤ-assoc x x' c, *ℤ_comm x x') in
    omega (
      ints,
      cross,
      both x,
      both x',
      *ℤ-distribˡ x' B (x' *ℤ c),
      *ℤ-distribˡ x B (x *ℤ c),
      *ℤ-distribˡ x' B y,
      *ℤ-distribˡ x B y,
      *ℤ-subʳ x' x (B +ℤ y),
      add_parts (x *ℤ (x *ℤ c)) (x *ℤ (x' *ℤ c)),
      add_parts (x' *ℤ (x *ℤ c)) (x' *ℤ (x' *ℤ c)),
      add_parts (x' *ℤ B) (x' *ℤ (x' *ℤ c)),
      add_parts (x *ℤ B) (x *ℤ (x *ℤ c)),
      add_parts (x' *ℤ B) (x' *ℤ y),
      add_parts (x *ℤ B) (x *ℤ y),
      sub_parts (x' *ℤ (B +ℤ y)) (x *ℤ (B +ℤ y)),
      add_parts A (x' *ℤ (B +ℤ x' *ℤ c)),
      add_parts A (x *ℤ (B +ℤ x *ℤ c)),
      add_parts (A +ℤ x *ℤ (B +ℤ x *ℤ c)) ((x' -ℤ x) *ℤ (B +ℤ y)),
    )

-- x' is G above x, (q' - q) u is r G + s, and the slope is r u + κ
pub at_next : (u a b c q q' r x x' G E κ s : ℤ) → x' -ℤ x ≡ G → (q' -ℤ q) *ℤ u ≡ r *ℤ G +ℤ s → rise u b c (x +ℤ x') ≡ r *ℤ u +ℤ κ → value u a b c x ≡ q *ℤ (u *ℤ u) +ℤ E → value u a b c x' ≡ q' *ℤ (u *ℤ u) +ℤ (E +ℤ (G *ℤ κ -ℤ s *ℤ u))
at_next u a b c q q' r x x' G E κ s g e h v =
    let U = u *ℤ u in
    let run : q' *ℤ U -ℤ q *ℤ U ≡ r *ℤ G *ℤ u +ℤ s *ℤ u = cc (*ℤ-subʳ q' q U, *ℤ-assoc (q' -ℤ q) u u, e, *ℤ-distribʳ (r *ℤ G) s u) in
    let climb : G *ℤ rise u b c (x +ℤ x') ≡ r *ℤ G *ℤ u +ℤ G *ℤ κ = cc (h, *ℤ-distribˡ G (r *ℤ u) κ, *ℤ_comm G (r *ℤ u), *ℤ-swap r u G) in
    omega (
      ints,
      v,
      run,
      climb,
      rw g at (step u a b c x x'),
      sub_parts (q' *ℤ U) (q *ℤ U),
      add_parts (r *ℤ G *ℤ u) (s *ℤ u),
      add_parts (r *ℤ G *ℤ u) (G *ℤ κ),
      add_parts (q *ℤ U) E,
      add_parts (value u a b c x) (G *ℤ rise u b c (x +ℤ x')),
      sub_parts (G *ℤ κ) (s *ℤ u),
      add_parts E (G *ℤ κ -ℤ s *ℤ u),
      add_parts (q' *ℤ U) (E +ℤ (G *ℤ κ -ℤ s *ℤ u)),
    )
