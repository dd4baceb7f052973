-- Worked examples of shares, computed from the definition.
use Rattle.std.proofs.Common.{◌≡◌, Some, None, refl}
use Rattle.std.specs.Prelude.{codes}
use Rattle.effective_area.specs.ShareTexts.{share_of}

half : share_of (codes "1/2") ≡ Some (1, 2)
half = refl

nothing : share_of (codes "0/1") ≡ Some (0, 1)
nothing = refl

all : share_of (codes "1/1") ≡ Some (1, 1)
all = refl

zeros_in_front : share_of (codes "03/010") ≡ Some (3, 10)
zeros_in_front = refl

many_zeros_in_front : share_of (codes "0000000000000000000000001/00000000000000000000000002") ≡ Some (1, 2)
many_zeros_in_front = refl

largest : share_of (codes "1000000000/1000000000") ≡ Some (1000000000, 1000000000)
largest = refl

past_the_largest : share_of (codes "1/1000000001") ≡ None
past_the_largest = refl

more_than_all : share_of (codes "2/1") ≡ None
more_than_all = refl

of_none : share_of (codes "1/0") ≡ None
of_none = refl

none_of_none : share_of (codes "0/0") ≡ None
none_of_none = refl

empty : share_of (codes "") ≡ None
empty = refl

bare_slash : share_of (codes "/") ≡ None
bare_slash = refl

without_whole : share_of (codes "1/") ≡ None
without_whole = refl

without_part : share_of (codes "/2") ≡ None
without_part = refl

without_slash : share_of (codes "1") ≡ None
without_slash = refl

second_slash : share_of (codes "1/2/3") ≡ None
second_slash = refl

plus : share_of (codes "+1/2") ≡ None
plus = refl

plus_after : share_of (codes "1/+2") ≡ None
plus_after = refl

minus : share_of (codes "-1/2") ≡ None
minus = refl

blank_in_front : share_of (codes " 1/2") ≡ None
blank_in_front = refl

blank_between : share_of (codes "1 /2") ≡ None
blank_between = refl

percent : share_of (codes "50%") ≡ None
percent = refl

decimals : share_of (codes "0.5") ≡ None
decimals = refl
