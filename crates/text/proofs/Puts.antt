-- Writing into a buffer: whether it fits, and one writing after another.
use Rattle.std.proofs.Common.{◌≡◌, ℕ, ◌+◌, ◌-◌, ◌<◌, ◌≤◌, List, ◌++◌, length, take, drop, Some, None, Option, sym, ap, ◌∙◌, ⊎_elim, arith}
use Rattle.std.proofs.lemmas.List.{append_assoc, length-append, length-drop, length-take-le, take_at, drop_at, drop-drop}
use Rattle.std.proofs.lemmas.Bool.{cond-true, cond-false, le-leb, lt-leb, cases_lt}
use Rattle.text.specs.Put.{room_left, overwritten, put}

pub put_fits : (buffer : List ℕ) (at : ℕ) (w : List ℕ) → at + length w ≤ length buffer → put buffer at w ≡ (Some (at + length w), overwritten buffer at w)
put_fits buffer at w h = cond-true _ _ _ (le-leb _ _ h)

pub put_refused : (buffer : List ℕ) (at : ℕ) (w : List ℕ) → length buffer < at + length w → put buffer at w ≡ (None, buffer)
put_refused buffer at w h = cond-false _ _ _ (lt-leb _ _ h)

pub room_fits : (room n : ℕ) → n ≤ room → room_left room n ≡ Some (room - n)
room_fits room n h = cond-true _ _ _ (le-leb _ _ h)

pub room_refused : (room n : ℕ) → room < n → room_left room n ≡ None
room_refused room n h = cond-false _ _ _ (lt-leb _ _ h)

pub length-overwritten : (buffer : List ℕ) (at : ℕ) (w : List ℕ) → at + length w ≤ length buffer → length (overwritten buffer at w) ≡ length buffer
length-overwritten buffer at w h =
    simp (length-append, length-drop) (let t = length-take-le at buffer (omega arith) in omega arith)

after : (at : ℕ) (v w : List ℕ) → at + length v + length w ≡ at + length (v ++ w)
after at v w = omega (arith, length-append v w)

-- a writing at the place after another one is one writing of both
pub overwritten_twice : (buffer : List ℕ) (at : ℕ) (v w : List ℕ) → at + length (v ++ w) ≤ length buffer → overwritten (overwritten buffer at v) (at + length v) w ≡ overwritten buffer at (v ++ w)
overwritten_twice buffer at v w h =
    let len = simp length-append at h in
    let fits : at ≤ length buffer = omega arith in
    let before : length (take at buffer ++ v) ≡ at + length v = length-append (take at buffer) v ∙ ap (λ n. n + length v) (length-take-le at buffer fits) in
    let split : overwritten buffer at v ≡ (take at buffer ++ v) ++ drop (at + length v) buffer = sym (append_assoc (take at buffer) v (drop (at + length v) buffer)) in
    let front : take (at + length v) (overwritten buffer at v) ≡ take at buffer ++ v = ap (take (at + length v)) split ∙ take_at (take at buffer ++ v) _ _ before in
    let back : drop (at + length v + length w) (overwritten buffer at v) ≡ drop (at + length (v ++ w)) buffer =
    sym (drop-drop (length w) (at + length v) (overwritten buffer at v))
    ∙ ap (drop (length w)) (ap (drop (at + length v)) split ∙ drop_at (take at buffer ++ v) _ _ before)
    ∙ drop-drop (length w) (at + length v) buffer
    ∙ ap (λ n. drop n buffer) (after at v w) in
    ap (λ x. x ++ (w ++ drop (at + length v + length w) (overwritten buffer at v))) front
    ∙ ap (λ x. (take at buffer ++ v) ++ (w ++ x)) back
    ∙ append_assoc (take at buffer) v (w ++ drop (at + length (v ++ w)) buffer)
    ∙ ap (λ x. take at buffer ++ x) (sym (append_assoc v w (drop (at + length (v ++ w)) buffer)))

pub put_twice : (buffer : List ℕ) (at : ℕ) (v w : List ℕ) → at + length (v ++ w) ≤ length buffer → put (overwritten buffer at v) (at + length v) w ≡ put buffer at (v ++ w)
put_twice buffer at v w h =
    let len = length-append v w in
    let all = length-overwritten buffer at v (omega arith) in
    put_fits (overwritten buffer at v) (at + length v) w (omega arith)
    ∙ ap (λ n. (Some n, overwritten (overwritten buffer at v) (at + length v) w)) (after at v w)
    ∙ ap (λ b. (Some (at + length (v ++ w)), b)) (overwritten_twice buffer at v w h)
    ∙ sym (put_fits buffer at (v ++ w) h)

-- nothing is no place
pub none_some : {X : Type 0} (x : X) → None ≡ Some x → ⊥
none_some x e = let z : ◌≡◌ {A = ℕ} 0 1 = cc in omega arith

same_some : (m n : ℕ) → Some m ≡ Some n → m ≡ n
same_some m n e = cc

-- what a writing that answered a place has done
pub put_some : (buffer after : List ℕ) (at next : ℕ) (w : List ℕ) → ◌≡◌ {A = Option ℕ × List ℕ} (Some next, after) (put buffer at w) → (at + length w ≤ length buffer) × (next ≡ at + length w) × (after ≡ overwritten buffer at w)
put_some buffer after at next w e =
    ⊎_elim (λ refused. absurd (none_some next (sym (ap (λ x. x.0) (e ∙ put_refused buffer at w refused))))) (λ fits. (fits, same_some next (at + length w) (ap (λ x. x.0) (e ∙ put_fits buffer at w fits)), ap (λ x. x.1) (e ∙ put_fits buffer at w fits))) (cases_lt (length buffer) (at + length w))

-- where the bytes fit, a writing is not refused
pub put_none : (buffer after : List ℕ) (at : ℕ) (w : List ℕ) → at + length w ≤ length buffer → ◌≡◌ {A = Option ℕ × List ℕ} (None, after) (put buffer at w) → ⊥
put_none buffer after at w fits e = none_some (at + length w) (ap (λ x. x.0) (e ∙ put_fits buffer at w fits))

-- three writings, one after another, where the whole fits
pub put_thrice : (buffer b1 b2 : List ℕ) (at a1 a2 : ℕ) (u v w : List ℕ) → at + length (u ++ (v ++ w)) ≤ length buffer → ◌≡◌ {A = Option ℕ × List ℕ} (Some a1, b1) (put buffer at u) → ◌≡◌ {A = Option ℕ × List ℕ} (Some a2, b2) (put b1 a1 v) → put b2 a2 w ≡ put buffer at (u ++ (v ++ w))
put_thrice buffer b1 b2 at a1 a2 u v w h e f =
    let long = length-append u (v ++ w) in
    let long2 = length-append v w in
    let first = put_some buffer b1 at a1 u e in
    let second = put_some b1 b2 a1 a2 v f in
    let same = length-overwritten buffer at u first.0 in
    let size = ap length first.2 ∙ same in
    ap (λ b. put b a2 w) second.2 ∙ ap (λ a. put (overwritten b1 a1 v) a w) second.1
    ∙ put_twice b1 a1 v w (omega arith)
    ∙ ap (λ b. put b a1 (v ++ w)) first.2 ∙ ap (λ a. put (overwritten buffer at u) a (v ++ w)) first.1
    ∙ put_twice buffer at u (v ++ w) h

pub put_second_none : (buffer b1 b2 : List ℕ) (at a1 : ℕ) (u v w : List ℕ) → at + length (u ++ (v ++ w)) ≤ length buffer → ◌≡◌ {A = Option ℕ × List ℕ} (Some a1, b1) (put buffer at u) → ◌≡◌ {A = Option ℕ × List ℕ} (None, b2) (put b1 a1 v) → ⊥
put_second_none buffer b1 b2 at a1 u v w h e f =
    let first = put_some buffer b1 at a1 u e in
    let size = ap length first.2 ∙ length-overwritten buffer at u first.0 in
    let long = length-append u (v ++ w) in
    let long2 = length-append v w in put_none b1 b2 a1 v (omega arith) f

pub room_some : (room n left : ℕ) → Some left ≡ room_left room n → (n ≤ room) × (left ≡ room - n)
room_some room n left e =
    ⊎_elim (λ refused. absurd (none_some left (sym (e ∙ room_refused room n refused)))) (λ fits. (fits, same_some left (room - n) (e ∙ room_fits room n fits))) (cases_lt room n)

pub room_none : (room n : ℕ) → None ≡ room_left room n → room < n
room_none room n e = ⊎_elim (λ refused. refused) (λ fits. absurd (none_some (room - n) (e ∙ room_fits room n fits))) (cases_lt room n)

-- what is left after one text and then another
pub room_twice : (room left n m : ℕ) → Some left ≡ room_left room n → room_left left m ≡ room_left room (n + m)
room_twice room left n m e =
    let h = room_some room n left e in
    ⊎_elim (λ refused. room_refused left m refused ∙ sym (room_refused room (n + m) (omega arith))) (λ fits. let same : left - m ≡ room - (n + m) = omega arith in room_fits left m fits ∙ ap Some same ∙ sym (room_fits room (n + m) (omega arith))) (cases_lt left m)

-- three texts, one after another
pub room_thrice : (room r1 r2 : ℕ) (u v w : List ℕ) → Some r1 ≡ room_left room (length u) → Some r2 ≡ room_left r1 (length v) → room_left r2 (length w) ≡ room_left room (length (u ++ (v ++ w)))
room_thrice room r1 r2 u v w e f =
    room_twice r1 r2 (length v) (length w) f ∙ ap (room_left r1) (sym (length-append v w)) ∙ room_twice room r1 (length u) (length (v ++ w)) e ∙ ap (room_left room) (sym (length-append u (v ++ w)))

pub room_first_none : (room : ℕ) (u w : List ℕ) → None ≡ room_left room (length u) → None ≡ room_left room (length (u ++ w))
room_first_none room u w e = let h = room_none room (length u) e in sym (room_refused room (length (u ++ w)) (omega (arith, length-append u w)))

pub room_second_none : (room r1 : ℕ) (u v w : List ℕ) → Some r1 ≡ room_left room (length u) → None ≡ room_left r1 (length v) → None ≡ room_left room (length (u ++ (v ++ w)))
room_second_none room r1 u v w e f =
    room_first_none r1 v w f ∙ room_twice room r1 (length u) (length (v ++ w)) e ∙ ap (room_left room) (sym (length-append u (v ++ w)))

-- where there is room after a place, a writing there fits
pub room_at : (buffer : List ℕ) (at room left : ℕ) (w : List ℕ) → at ≤ length buffer → room ≡ length buffer - at → Some left ≡ room_left room (length w) → at + length w ≤ length buffer
room_at buffer at room left w h e f = let k = room_some room (length w) left f in omega arith
