-- Powers of α and products over GF(128), as maps that respect sums.
-- Assumes nothing.
use Rattle.std.specs.Prelude.{◌≡◌, ℕ, zero, suc, ◌+◌, ◌-◌, ◌*◌, ◌/◌, ◌%◌, ◌<◌, ◌≤◌, Bool, true, false, not, ◌&&◌, ◌||◌, T, ◌==◌, ◌≢◌, refl}
use Rattle.std.proofs.Common.{sym, ap, ap₂, ◌∙◌, subst, ⊎_elim, add-zero, zero-add, suc-add, zero-mul, one-mul, not-suc-le-zero, eq-or-lt_of_le, le_of_suc-le-suc, arith, eqb→eq, T_not, lit<}
use Rattle.std.specs.Int.Bits.{bit_xor, xor_assoc, xor_self, xor_zero_r}
use Rattle.std.proofs.lemmas.Nat.{xor_comm, xor_lt, xor_mod, xor_shr, xor_block}
use Rattle.std.proofs.Math.Dec.{eqb_refl}
use Rattle.std.proofs.lemmas.Bool.{cases_order}
use Rattle.reed_solomon.specs.Field.{alpha, raised, times_low, times}

-- ---- sums

pub xor_left : (a b c : ℕ) → bit_xor a (bit_xor b c) ≡ bit_xor b (bit_xor a c)
xor_left a b c = sym (xor_assoc a b c) ∙ ap (λ (x : ℕ). bit_xor x c) (xor_comm a b) ∙ xor_assoc b a c

pub xor_swap : (a b c d : ℕ) → bit_xor (bit_xor a b) (bit_xor c d) ≡ bit_xor (bit_xor a c) (bit_xor b d)
xor_swap a b c d = xor_assoc a b (bit_xor c d) ∙ ap (λ (x : ℕ). bit_xor a x) (xor_left b c d) ∙ sym (xor_assoc a c (bit_xor b d))

-- a symbol added twice is gone
pub xor_twice : (a b : ℕ) → bit_xor (bit_xor a b) b ≡ a
xor_twice a b = xor_assoc a b b ∙ ap (λ (x : ℕ). bit_xor a x) (xor_self b) ∙ xor_zero_r a

pub xor_same : (a b : ℕ) → bit_xor a b ≡ 0 → a ≡ b
xor_same a b e = sym (xor_twice a b) ∙ ap (λ (x : ℕ). bit_xor x b) e

pub xor_none : (a b : ℕ) → a ≡ b → bit_xor a b ≡ 0
xor_none a b e = ap (λ (x : ℕ). bit_xor x b) e ∙ xor_self b

pub xor_below : (a b : ℕ) → a < 128 → b < 128 → bit_xor a b < 128
xor_below a b = xor_lt 7 a b

xor_double : (x y : ℕ) → bit_xor x y * 2 ≡ bit_xor (x * 2) (y * 2)
xor_double x y =
    sym
    (ap₂ bit_xor (sym (add-zero (x * 2))) (sym (add-zero (y * 2))) ∙ xor_block 1 x y 0 0 (lit< tt) (lit< tt) ∙ add-zero (bit_xor x y * 2))

xor-nine : (x y : ℕ) → x < 2 → y < 2 → bit_xor x y * 9 ≡ bit_xor (x * 9) (y * 9)
xor-nine zero y h k = refl
xor-nine (suc zero) zero h k = refl
xor-nine (suc zero) (suc zero) h k = refl
xor-nine (suc zero) (suc (suc y)) h k = absurd (omega arith)
xor-nine (suc (suc x)) y h k = absurd (omega arith)

-- ---- α times a symbol

pub alpha-lt : (a : ℕ) → alpha a < 128
unfolding alpha
alpha-lt a = xor_below (a % 64 * 2) (a / 64 % 2 * 9) (omega arith) (omega arith)

pub alpha-xor : (a b : ℕ) → alpha (bit_xor a b) ≡ bit_xor (alpha a) (alpha b)
unfolding alpha
alpha-xor a b =
    ap₂ bit_xor (ap (λ (x : ℕ). x * 2) (xor_mod a b 6) ∙ xor_double (a % 64) (b % 64))
    (ap (λ (x : ℕ). x % 2 * 9) (xor_shr a b 6) ∙ ap (λ (x : ℕ). x * 9) (xor_mod (a / 64) (b / 64) 1)
    ∙ xor-nine (a / 64 % 2) (b / 64 % 2) (omega arith) (omega arith))
    ∙ xor_swap (a % 64 * 2) (b % 64 * 2) (a / 64 % 2 * 9) (b / 64 % 2 * 9)

alpha-zero : alpha 0 ≡ 0
unfolding alpha
alpha-zero = refl

-- ---- α^k times a symbol

pub raised_none_of : (a : ℕ) → raised 0 a ≡ a
unfolding raised
raised_none_of a = refl

pub raised-suc : (k a : ℕ) → raised (suc k) a ≡ alpha (raised k a)
unfolding raised
raised-suc k a = refl

pub raised_lt : (k a : ℕ) → a < 128 → raised k a < 128
unfolding raised
raised_lt zero a h = h
raised_lt (suc k) a h = alpha-lt (raised k a)

pub raised-xor : (k a b : ℕ) → raised k (bit_xor a b) ≡ bit_xor (raised k a) (raised k b)
unfolding raised
raised-xor zero a b = refl
raised-xor (suc k) a b = ap alpha (raised-xor k a b) ∙ alpha-xor (raised k a) (raised k b)

pub raised-zero : (k : ℕ) → raised k 0 ≡ 0
unfolding raised
raised-zero zero = refl
raised-zero (suc k) = ap alpha (raised-zero k) ∙ alpha-zero

pub raised-add : (i j a : ℕ) → raised (i + j) a ≡ raised i (raised j a)
unfolding raised
raised-add zero j a = ap (λ (k : ℕ). raised k a) (zero-add j)
raised-add (suc i) j a = ap (λ (k : ℕ). raised k a) (suc-add i j) ∙ ap alpha (raised-add i j a)

-- the powers may change places
pub raised_comm : (i j a : ℕ) → raised i (raised j a) ≡ raised j (raised i a)
raised_comm i j a = sym (raised-add i j a) ∙ ap (λ (k : ℕ). raised k a) (omega arith) ∙ raised-add j i a

pub raised_comm_alpha : (i a : ℕ) → raised i (alpha a) ≡ raised (suc i) a
unfolding raised
raised_comm_alpha i a = raised_comm i 1 a

-- ---- what is computed: tests at each of the 128 symbols

every : (ℕ → Bool) → ℕ → Bool
every f zero = true
every f (suc n) = f n && every f n

and_left : (a b : Bool) → T (a && b) → T a
and_left true b t = tt
and_left false b t = absurd t

and_right : (a b : Bool) → T (a && b) → T b
and_right true b t = t
and_right false b t = absurd t

every_at : (f : ℕ → Bool) (n : ℕ) → T (every f n) → (k : ℕ) → k < n → T (f k)
unfolding every
every_at f zero t k h = absurd (not-suc-le-zero h)
every_at f (suc n) t k h =
    ⊎_elim (λ e. subst (λ (m : ℕ). T (f m)) (sym e) (and_left (f n) (every f n) t)) (every_at f n (and_right (f n) (every f n) t) k)
    (eq-or-lt_of_le (le_of_suc-le-suc h))

cycles : ℕ → Bool
cycles a = raised 127 a == a

cycles_all : T (every cycles 128)
unfolding every cycles raised alpha
cycles_all = tt

pub raised_cycle : (a : ℕ) → a < 128 → raised 127 a ≡ a
unfolding cycles
raised_cycle a h = eqb→eq (raised 127 a) a (every_at cycles 128 cycles_all a h)

-- none of b, α·b, … , n of them, is a
walk : ℕ → ℕ → ℕ → Bool
walk zero b a = true
walk (suc n) b a = not (b == a) && walk n (alpha b) a

away : ℕ → Bool
away a = a == 0 || walk 126 (alpha a) a

away_all : T (every away 128)
unfolding every away walk alpha
away_all = tt

walk_at : (n b a : ℕ) → T (walk n b a) → (i : ℕ) → i < n → raised i b ≢ a
unfolding walk
walk_at zero b a t i h e = not-suc-le-zero h
walk_at (suc n) b a t zero h e =
    T_not (b == a) (and_left (not (b == a)) (walk n (alpha b) a) t)
    (subst (λ (x : ℕ). T (b == x)) (sym (raised_none_of b) ∙ e) (eqb_refl b))
walk_at (suc n) b a t (suc i) h e =
    walk_at n (alpha b) a (and_right (not (b == a)) (walk n (alpha b) a) t) i (le_of_suc-le-suc h)
    (raised_comm_alpha i b ∙ e)

or_none : (a b : Bool) → T (a || b) → (T b → ⊥) → T a
or_none true b t f = tt
or_none false b t f = absurd (f t)

-- no power of α below the 127th leaves a symbol as it is, but for 0
pub raised_order : (i a : ℕ) → a < 128 → 0 < i → i < 127 → raised i a ≡ a → a ≡ 0
unfolding away
raised_order zero a h p q e = absurd (not-suc-le-zero p)
raised_order (suc i) a h p q e =
    eqb→eq a 0
    (or_none (a == 0) (walk 126 (alpha a) a) (every_at away 128 away_all a h)
    (λ t. walk_at 126 (alpha a) a t i (le_of_suc-le-suc q) (raised_comm_alpha i a ∙ e)))

alpha_none : (a : ℕ) → a < 128 → alpha a ≡ 0 → a ≡ 0
alpha_none a h e =
    sym (raised_cycle a h) ∙ sym (raised_comm_alpha 126 a) ∙ ap (λ (x : ℕ). raised 126 x) e ∙ raised-zero 126

pub raised_none : (k a : ℕ) → a < 128 → raised k a ≡ 0 → a ≡ 0
unfolding raised
raised_none zero a h e = e
raised_none (suc k) a h e = raised_none k a h (alpha_none (raised k a) (raised_lt k a h) e)

-- symbols that a power of α makes equal are equal
pub raised-same : (k a b : ℕ) → a < 128 → b < 128 → raised k a ≡ raised k b → a ≡ b
raised-same k a b h l e =
    xor_same a b (raised_none k (bit_xor a b) (xor_below a b h l) (raised-xor k a b ∙ xor_none (raised k a) (raised k b) e))

-- different powers move every symbol apart, but for 0
pub raised-apart : (i j a : ℕ) → a < 128 → i < j → j < 127 → raised j a ≡ raised i a → a ≡ 0
raised-apart i j a h l m e =
    raised_order (j - i) a h (omega arith) (omega arith)
    (raised-same i (raised (j - i) a) a (raised_lt (j - i) a h) h
    (sym (raised-add i (j - i) a) ∙ ap (λ (k : ℕ). raised k a) (omega arith) ∙ e))

-- so the power between two symbols is one below 127
pub raised_power : (i j a : ℕ) → a < 128 → 0 < a → i < 127 → j < 127 → raised i a ≡ raised j a → i ≡ j
raised_power i j a h p l m e =
    ⊎_elim (λ s. s)
    (⊎_elim (λ u. absurd (omega (arith, raised-apart i j a h u m (sym e)))) (λ u. absurd (omega (arith, raised-apart j i a h u l e))))
    (cases_order i j)

-- a power taken back: 127 − p places more
pub raised_back : (p a : ℕ) → a < 128 → p ≤ 127 → raised p (raised (127 - p) a) ≡ a
raised_back p a h l = sym (raised-add p (127 - p) a) ∙ ap (λ (k : ℕ). raised k a) (omega arith) ∙ raised_cycle a h

-- ---- products

bit_xor_lem : (x a b : ℕ) → x < 2 → x * bit_xor a b ≡ bit_xor (x * a) (x * b)
bit_xor_lem zero a b h = zero-mul (bit_xor a b) ∙ sym (ap₂ bit_xor (zero-mul a) (zero-mul b))
bit_xor_lem (suc zero) a b h = one-mul (bit_xor a b) ∙ sym (ap₂ bit_xor (one-mul a) (one-mul b))
bit_xor_lem (suc (suc x)) a b h = absurd (omega arith)

bit_alpha : (x b : ℕ) → x < 2 → x * alpha b ≡ alpha (x * b)
bit_alpha zero b h = zero-mul (alpha b) ∙ sym (ap alpha (zero-mul b) ∙ alpha-zero)
bit_alpha (suc zero) b h = one-mul (alpha b) ∙ sym (ap alpha (one-mul b))
bit_alpha (suc (suc x)) b h = absurd (omega arith)

bit_lt : (x b : ℕ) → x < 2 → b < 128 → x * b < 128
bit_lt zero b h l = subst (λ (y : ℕ). y < 128) (sym (zero-mul b)) (lit< tt)
bit_lt (suc zero) b h l = subst (λ (y : ℕ). y < 128) (sym (one-mul b)) l
bit_lt (suc (suc x)) b h l = absurd (omega arith)

low_xor : (n f a b : ℕ) → times_low n f (bit_xor a b) ≡ bit_xor (times_low n f a) (times_low n f b)
unfolding times_low
low_xor zero f a b = refl
low_xor (suc n) f a b =
    ap₂ bit_xor (bit_xor_lem (f % 2) a b (omega arith)) (ap (times_low n (f / 2)) (alpha-xor a b) ∙ low_xor n (f / 2) (alpha a) (alpha b))
    ∙ xor_swap (f % 2 * a) (f % 2 * b) (times_low n (f / 2) (alpha a)) (times_low n (f / 2) (alpha b))

low_alpha : (n f b : ℕ) → times_low n f (alpha b) ≡ alpha (times_low n f b)
unfolding times_low
low_alpha zero f b = sym alpha-zero
low_alpha (suc n) f b =
    ap₂ bit_xor (bit_alpha (f % 2) b (omega arith)) (low_alpha n (f / 2) (alpha b))
    ∙ sym (alpha-xor (f % 2 * b) (times_low n (f / 2) (alpha b)))

low_lt : (n f b : ℕ) → b < 128 → times_low n f b < 128
unfolding times_low
low_lt zero f b h = lit< tt
low_lt (suc n) f b h =
    xor_below (f % 2 * b) (times_low n (f / 2) (alpha b)) (bit_lt (f % 2) b (omega arith) h) (low_lt n (f / 2) (alpha b) (alpha-lt b))

low_zero : (n b : ℕ) → times_low n 0 b ≡ 0
unfolding times_low
low_zero zero b = refl
low_zero (suc n) b = ap₂ bit_xor (zero-mul b) (low_zero n (alpha b))

pub times-lt : (a b : ℕ) → b < 128 → times a b < 128
unfolding times
times-lt a b h = low_lt 7 a b h

pub times-xor : (f a b : ℕ) → times f (bit_xor a b) ≡ bit_xor (times f a) (times f b)
unfolding times
times-xor f a b = low_xor 7 f a b

pub times-alpha : (f b : ℕ) → times f (alpha b) ≡ alpha (times f b)
unfolding times
times-alpha f b = low_alpha 7 f b

pub times-raised : (f k b : ℕ) → times f (raised k b) ≡ raised k (times f b)
unfolding raised
times-raised f zero b = refl
times-raised f (suc k) b = times-alpha f (raised k b) ∙ ap alpha (times-raised f k b)

pub times_zero : (f : ℕ) → times f 0 ≡ 0
times_zero f = ap (times f) (sym (xor_self 0)) ∙ times-xor f 0 0 ∙ xor_self (times f 0)

pub zero-times : (b : ℕ) → times 0 b ≡ 0
unfolding times
zero-times b = low_zero 7 b

ones : ℕ → Bool
ones f = times f 1 == f

ones_all : T (every ones 128)
unfolding every ones times times_low alpha
ones_all = tt

pub times_one : (f : ℕ) → f < 128 → times f 1 ≡ f
unfolding ones
times_one f h = eqb→eq (times f 1) f (every_at ones 128 ones_all f h)

pub times_power : (f k : ℕ) → f < 128 → times f (raised k 1) ≡ raised k f
times_power f k h = times-raised f k 1 ∙ ap (raised k) (times_one f h)
