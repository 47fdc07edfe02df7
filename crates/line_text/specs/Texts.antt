-- The texts of the bad words.
use Rattle.std.specs.Prelude.{ℕ, List, codes}
use Rattle.line_text.specs.declared.bad_word.BadWord.{BadWord}
use Rattle.line_text.specs.declared.bad_word.BadWord.TheVariants as bad

abbrev pub bad_word_text : BadWord → List ℕ
bad_word_text bad.AfterEnd = codes "after-end"
bad_word_text bad.Long = codes "long"
bad_word_text bad.LineFeed = codes "line-feed"
bad_word_text bad.Lines = codes "lines"
bad_word_text bad.Spaces = codes "spaces"
bad_word_text bad.Header = codes "header"
bad_word_text bad.Word = codes "word"
bad_word_text bad.NotBuilt = codes "not-built"
bad_word_text bad.Order = codes "order"
bad_word_text bad.Count = codes "count"
bad_word_text bad.Number = codes "number"
bad_word_text bad.Hex = codes "hex"
bad_word_text bad.Name = codes "name"
bad_word_text bad.Limit = codes "limit"
bad_word_text bad.Cert = codes "cert"
bad_word_text bad.OwnKey = codes "self"
bad_word_text bad.End = codes "end"
