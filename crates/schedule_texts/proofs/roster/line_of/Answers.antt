use Rattle.std.proofs.Common.{rules}
use Rattle.schedule_texts.specs.declared.line.RosterLine.TheVariants as lines
use Rattle.schedule_texts.specs.declared.roster.LineWord.TheVariants as words
use Rattle.schedule_texts.specs.Shared.{group_fields, group_in, one_level_fields, one_level_in}
use Rattle.schedule_texts.specs.RosterRows.{cert_fields, cert_in, line_of}
use Rattle.schedule_texts.proofs.TableLemmas.{line_bad, line_good}
use Rattle.schedule_texts.proofs.roster.line_of.Goals as goal

pub returns-in_err-read_one_level-in-Kinds : goal.returns-in_err-read_one_level-in-Kinds
returns-in_err-read_one_level-in-Kinds c =
    let x = line_bad one_level_fields one_level_in (line_of words.Kinds) c.args.args c.in_err-read_one_level-in-Kinds.field-0.0 c.in_err-read_one_level-in-Kinds.ensures in
    rw c.in-Kinds.is (search (rules, x))

pub returns-in_err-read_cert-in-Cert : goal.returns-in_err-read_cert-in-Cert
returns-in_err-read_cert-in-Cert c =
    let x = line_bad (cert_fields c.args.form.now) cert_in (line_of words.Cert) c.args.args c.in_err-read_cert-in-Cert.field-0.0 c.in_err-read_cert-in-Cert.ensures in
    rw c.in-Cert.is (search (rules, x))

pub returns-in_ok-read_one_level-in-Kinds : goal.returns-in_ok-read_one_level-in-Kinds
returns-in_ok-read_one_level-in-Kinds c =
    rw c.in-Kinds.is (line_good one_level_fields one_level_in lines.Kinds c.args.args c.in_ok-read_one_level-in-Kinds.field-0 c.in_ok-read_one_level-in-Kinds.ensures)

pub returns-in_err-read_group-in-Group : goal.returns-in_err-read_group-in-Group
returns-in_err-read_group-in-Group c =
    let x = line_bad group_fields group_in (line_of words.Group) c.args.args c.in_err-read_group-in-Group.field-0.0 c.in_err-read_group-in-Group.ensures in
    rw c.in-Group.is (search (rules, x))

pub returns-in_ok-read_group-in-Group : goal.returns-in_ok-read_group-in-Group
returns-in_ok-read_group-in-Group c =
    rw c.in-Group.is (line_good group_fields group_in lines.Group c.args.args c.in_ok-read_group-in-Group.field-0 c.in_ok-read_group-in-Group.ensures)

pub returns-in_ok-read_cert-in-Cert : goal.returns-in_ok-read_cert-in-Cert
returns-in_ok-read_cert-in-Cert c =
    rw c.in-Cert.is (line_good (cert_fields c.args.form.now) cert_in lines.Cert c.args.args c.in_ok-read_cert-in-Cert.field-0 c.in_ok-read_cert-in-Cert.ensures)
