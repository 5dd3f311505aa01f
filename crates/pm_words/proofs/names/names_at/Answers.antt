-- All words are names where no other word stands behind those in front.
use Rattle.std.proofs.Common.{◌≡◌, map, string_bytes, length, sym, ◌∙◌, true, arith, get_or, Global}
use Rattle.std.specs.List.{prefix_len}
use Rattle.std.proofs.lemmas.List.{length-map}
use Rattle.std.proofs.lemmas.List.Elements.{All-map}
use Rattle.pm_words.specs.CommandLine.{is_asked_name}
use Rattle.pm_words.proofs.AskedNames.{each_is, name_clean}
use Rattle.pm_words.proofs.names.names_at.Goals as goal

pub returns-clause-names : goal.returns-clause-names
returns-clause-names c =
    let words = c.args.words.now in
    let names = string_bytes {Z = Global} in
    let whole : prefix_len is_asked_name (map names words) ≡ length words = omega (arith, c.names_in_front-front.ensures.front, c.names_in_front-front.ensures.within, c.if-front-words.false) in
    let many : length (map names words) ≡ length words = length-map words names in (
      omega (arith, many, c.names_in_front-front.ensures.within, c.if-front-lt1.false, c.if-front-words.false),
      omega (arith, many, c.names_in_front-front.ensures.within, c.if-front-gt-MOST_NAMES.false, c.if-front-words.false),
      All-map (λ name. is_asked_name name ≡ true) names words (each_is is_asked_name names words whole),
    )

pub returns-clause-clean : goal.returns-clause-clean
returns-clause-clean c =
    let words = c.args.words.now in
    let names = string_bytes {Z = Global} in
    let whole : prefix_len is_asked_name (map names words) ≡ length words = omega (arith, c.names_in_front-front.ensures.front, c.names_in_front-front.ensures.within, c.if-front-words.false) in
    λ k d lt. name_clean (names (get_or words k d)) (each_is is_asked_name names words whole k d lt)
