-- How a text is written in steps: one write and then another.
use Rattle.std.proofs.Common.{◌≡◌, ℕ, ◌+◌, ◌-◌, ◌^◌, ◌<◌, ◌≤◌, List, ◌++◌, length, take, drop, arith, length-drop, length-append, Result, Ok, Err}
use Rattle.std.proofs.lemmas.List.{take_all, take-append-le}
use Rattle.std.proofs.Math.Seq.{take-add, take-append-add, take-length}
use Rattle.std.proofs.KnownBytes.{Appends-nil, Appends-trans}
use Rattle.std.specs.Io.KnownBytes.{Appends}
use Rattle.byte_ends.specs.Ends.{Drained, Takes, saturated}
use Rattle.byte_ends.specs.Writes.{Writes, WritesAll}
use Rattle.byte_ends.specs.declared.sink.WriteFault.{WriteFault}
use Rattle.byte_ends.specs.declared.sink.WriteFault.TheVariants.{Write}

-- a sink that is left alone takes nothing
pub Takes-none : (s : Drained) (bytes : List ℕ) → s.sent < 2 ^ 64 → Takes s s bytes 0
Takes-none s bytes h = record {
  within = omega arith;
  taken = Appends-nil s.taken;
  sent = omega arith;
}

-- some bytes, and then some of the rest
pub Takes-more : (old mid new : Drained) (bytes : List ℕ) (at n : ℕ) → Takes old mid bytes at
    → n ≤ length (drop at bytes) → Appends mid.taken new.taken (take n (drop at bytes))
    → new.sent ≡ saturated (mid.sent + n) → Takes old new bytes (at + n)
Takes-more old mid new bytes at n t l a e = record {
  within = omega (arith, length-drop at bytes, t.within);
  taken = rw take-add (Appends-trans old.taken mid.taken new.taken (take at bytes) (take n (drop at bytes)) t.taken a);
  sent = omega (arith, t.sent);
}

-- the rest of a slice, as `&bytes[at..]` reads
pub rest_of : (bytes : List ℕ) (at : ℕ) → take (length bytes - at) (drop at bytes) ≡ drop at bytes
rest_of bytes at = take_all (length bytes - at) (drop at bytes) (omega (arith, length-drop at bytes))

-- a text and then another
pub Takes-then : (old mid new : Drained) (xs ys : List ℕ) (n : ℕ) → Takes old mid xs (length xs) → Takes mid new ys n
    → Takes old new (xs ++ ys) (length xs + n)
Takes-then old mid new xs ys n t u = record {
  within = omega (arith, length-append xs ys, u.within);
  taken = rw take-append-add (Appends-trans old.taken mid.taken new.taken xs (take n ys) (rw take-length at t.taken) u.taken);
  sent = omega (arith, t.sent, u.sent);
}

-- a prefix of a text is one of a longer text
pub Takes-prefix : (old new : Drained) (xs ys : List ℕ) (n : ℕ) → Takes old new xs n → Takes old new (xs ++ ys) n
Takes-prefix old new xs ys n t =
    let within : n ≤ length xs = t.within in
    record {
      within = omega (arith, length-append xs ys);
      taken = rw (take-append-le n xs ys within) t.taken;
      sent = t.sent;
    }

-- all of one text, and then another: together they are written as the second was
pub Writes-then : (old mid new : Drained) (count m : ℕ) (xs ys : List ℕ) (r : Result ℕ WriteFault)
    → WritesAll old mid count xs m → Writes mid new m ys r → Writes old new count (xs ++ ys) r
Writes-then old mid new count m xs ys (Ok answer) t u = record {
  unbroken = t.unbroken;
  took = rw length-append (Takes-then old mid new xs ys (length ys) t.took u.took);
  counted = omega (arith, length-append xs ys, t.counted, u.counted);
  sound = u.sound;
}
Writes-then old mid new count m xs ys (Err (Write sent)) t u = record {
  broken = λ failed. absurd (omega (arith, t.unbroken, failed));
  many = length xs + u.many;
  took = Takes-then old mid new xs ys u.many t.took u.took;
  counted = omega (arith, t.counted, u.counted);
  failed = u.failed;
}

-- a text that fails is a longer text that fails
pub Writes-stop : (old new : Drained) (count : ℕ) (xs ys : List ℕ) (e : WriteFault)
    → Writes old new count xs (Err e) → Writes old new count (xs ++ ys) (Err e)
Writes-stop old new count xs ys (Write sent) t = record {
  broken = t.broken;
  many = t.many;
  took = Takes-prefix old new xs ys t.many t.took;
  counted = t.counted;
  failed = t.failed;
}
